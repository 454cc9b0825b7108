-- What a call answered is valid.
use Rattle.std.proofs.Common.{Option, Some, None, Result, Ok, Err}
use Rattle.std.specs.Prelude.{IfOk, IfErr, IfSome}
use Rattle.js_base.specs.Bytes.{Bytes}
use Rattle.api_requests.specs.declared.fault.ApiFault.{ApiFault}
use Rattle.api_requests.specs.declared.fault.ApiFault.TheVariants.{Refused, NoMemory}
use Rattle.api_requests.specs.declared.request.ApiRequest.{ApiRequest}
use Rattle.api_requests.specs.Answers.{ReadsCall}
use Rattle.api_requests.specs.Requests.{request_of}
use Rattle.api_requests.specs.Read.{IsRead, IsShown}
use Rattle.api_requests.proofs.Requested.{request_read}
use Rattle.api_requests.proofs.Refused.{refusal_utf8}

pub read_is : (subject body : Bytes) (result : Result (Option ApiRequest) ApiFault) → ReadsCall result (request_of subject body) → IfOk result (λ found. IfSome found IsRead)
read_is subject body (Ok None) reads = tt
read_is subject body (Ok (Some request)) reads = request_read subject body request reads
read_is subject body (Err fault) reads = tt

pub refused_is : (subject body : Bytes) (result : Result (Option ApiRequest) ApiFault) → ReadsCall result (request_of subject body) → IfErr result IsShown
refused_is subject body (Ok found) reads = tt
refused_is subject body (Err (Refused refusal)) reads = refusal_utf8 subject body refusal reads
refused_is subject body (Err NoMemory) reads = tt
