-- A message to a subject of the API is read as a call.
use Rattle.std.proofs.Common.{◌≡◌, ℕ, List, [], Option, Result, Err, refl, sym, inl, inr}
use Rattle.js_base.specs.declared.out.Out.{Out}
use Rattle.js_base.specs.declared.out.ApiError.{ApiError}
use Rattle.js_model.specs.declared.desk.Taken.{Taken}
use Rattle.api_requests.specs.declared.request.ApiRequest.{ApiRequest}
use Rattle.api_requests.specs.Requests.{request_of}
use Rattle.js_api.specs.declared.fault.DeskFault.{DeskFault}
use Rattle.js_api.specs.declared.fault.DeskFault.TheVariants as faults
use Rattle.js_api.specs.Api.{IsAsked, PublishesToApi}
use Rattle.js_api.specs.Clients.{Client}
use Rattle.js_api.specs.Entries.{DeskEntry}
use Rattle.js_api.specs.Leading.{Makes}
use Rattle.desk_ground.proofs.Stages.{as_such}

module _ {D : Type 0} (made : D → List DeskEntry → D → Type 0) (client : Client) (message : Out) (now : ℕ) where
  -- the call was read
  pub read : (given : Option (Result ApiRequest ApiError)) (result : Result Taken DeskFault) (a b : D) → request_of message.to message.payload ≡ given → Makes made (IsAsked client message now given result) a b
      → Makes made (PublishesToApi client message now result) a b
  read given result a b is h = as_such made (IsAsked client message now given result) (PublishesToApi client message now result) a b h
      (λ entries asked. inr (record { given = given; before = []; more = entries; entries_are = refl; first_is = (sym is, refl); next_is = asked }))

  -- memory ran out as it was read
  pub unread : (a : D) → made a [] a → Makes made (PublishesToApi client message now (Err faults.NoMemory)) a a
  unread a led = record { entries = []; are = inl (record { fault = faults.NoMemory; result_is = refl; ended = refl }); led = led }
