-- What is read of calls is valid.
use Rattle.std.proofs.Common.{◌≡◌, [], Option, Some, None, Result, Ok, subst}
use Rattle.js_base.specs.Bytes.{Bytes}
use Rattle.js_base.specs.declared.out.ApiError.{ApiError}
use Rattle.api_requests.specs.declared.call.GeneralCall.{GeneralCall}
use Rattle.api_requests.specs.declared.call.GeneralCall.TheVariants as general
use Rattle.api_requests.specs.declared.call.StreamCall.{StreamCall}
use Rattle.api_requests.specs.declared.call.StreamCall.TheVariants as stream
use Rattle.api_requests.specs.declared.request.ApiRequest.{ApiRequest}
use Rattle.api_requests.specs.declared.request.ApiRequest.TheVariants as requests
use Rattle.api_requests.specs.declared.consumer_call.ConsumerCall.{ConsumerCall}
use Rattle.api_requests.specs.declared.consumer_call.ConsumerCall.TheVariants as consumer
use Rattle.ack_parse.specs.Asks.{ask_of}
use Rattle.api_requests.specs.Calls.{general_call, stream_call}
use Rattle.api_requests.specs.ConsumerCalls.{Tokens, consumer_call}
use Rattle.api_requests.specs.Bodies.{object_in, fields_of, token_name, listing_of, setup_of, page_of}
use Rattle.api_requests.specs.Consumers.{names_of, settings_in, creation_of}
use Rattle.api_requests.specs.Messages.{purge_in, message_in, sequence_in}
use Rattle.api_requests.specs.Requests.{general_request, stream_request, consumer_request, or_on_consumer, or_on_stream, request_of}
use Rattle.api_requests.specs.Read.{IsRead}
use Rattle.api_requests.proofs.Steps.{after}
use Rattle.api_requests.proofs.Parts.{stream_is, setup_is, listing_is, page_is}
use Rattle.api_requests.proofs.ReadAsks.{ask_proper}
use Rattle.api_requests.proofs.ReadConsumers.{names_are, creation_is}
use Rattle.api_requests.proofs.ReadMessages.{purge_is, message_is, sequence_is}

-- the request that was made is one as it is read
as_read : (made request : ApiRequest) → ◌≡◌ {A = Result ApiRequest ApiError} (Ok made) (Ok request) → IsRead made → IsRead request
as_read made request e is = let same : made ≡ request = cc in subst (λ (r : ApiRequest). IsRead r) same is

general_read : (call : GeneralCall) (body : Bytes) (request : ApiRequest) → general_request call body ≡ Ok request → IsRead request
unfolding general_request
general_read general.AccountInfo body request e = as_read requests.AccountInfo request e tt
general_read general.StreamNames body request e =
    after _ (listing_of body) _ request e (λ listing is made. as_read (requests.StreamNames listing.0 listing.1) request made (listing_is body listing is))
general_read general.StreamList body request e =
    after _ (listing_of body) _ request e (λ listing is made. as_read (requests.StreamList listing.0 listing.1) request made (listing_is body listing is))

on_stream_read : (call : StreamCall) (token body : Bytes) (request : ApiRequest) → stream_request call token body ≡ Ok request → IsRead request
unfolding stream_request
on_stream_read stream.Create token body request e =
    after _ (setup_of token body) _ request e (λ setup is made. as_read (requests.StreamCreate setup.0 setup.1) request made (setup_is token body setup is))
on_stream_read stream.Update token body request e =
    after _ (setup_of token body) _ request e (λ setup is made. as_read (requests.StreamUpdate setup.0 setup.1) request made (setup_is token body setup is))
on_stream_read stream.Info token body request e =
    after _ (fields_of body) _ request e
    (λ fields _ named. after _ (token_name token) _ request named (λ name is made. as_read (requests.StreamInfo name) request made (stream_is token name is)))
on_stream_read stream.Delete token body request e =
    after _ (token_name token) _ request e (λ name is made. as_read (requests.StreamDelete name) request made (stream_is token name is))
on_stream_read stream.Purge token body request e =
    after _ (fields_of body) _ request e
    (λ fields _ named. after _ (token_name token) _ request named
    (λ name is read. after _ (purge_in fields) _ request read
    (λ purge purged made. as_read (requests.StreamPurge name purge.filter purge.seq purge.keep) request made (stream_is token name is, purge_is fields purge purged))))
on_stream_read stream.MsgGet token body request e =
    after _ (object_in body) _ request e
    (λ fields _ named. after _ (token_name token) _ request named
    (λ name is read. after _ (message_in fields) _ request read
    (λ by asked made. as_read (requests.StreamMsgGet name by) request made (stream_is token name is, message_is fields by asked))))
on_stream_read stream.MsgDelete token body request e =
    after _ (object_in body) _ request e
    (λ fields _ named. after _ (token_name token) _ request named
    (λ name is read. after _ (sequence_in fields) _ request read
    (λ seq asked made. as_read (requests.StreamMsgDelete name seq) request made (stream_is token name is, sequence_is fields seq asked))))
on_stream_read stream.ConsumerNames token body request e =
    after _ (page_of token body) _ request e
    (λ page is made. let page_of_it = page_is token body page is in as_read (requests.ConsumerNames page.0 page.1) request made (page_of_it.name, page_of_it.number))
on_stream_read stream.ConsumerList token body request e =
    after _ (page_of token body) _ request e
    (λ page is made. let page_of_it = page_is token body page is in as_read (requests.ConsumerList page.0 page.1) request made (page_of_it.name, page_of_it.number))
on_stream_read stream.ConsumerCreate token body request e =
    after _ (object_in body) _ request e
    (λ fields _ named. after _ (token_name token) _ request named
    (λ name _ read. after _ (settings_in [] fields) _ request read (λ settings _ made. absurd (cc))))

on_consumer_read : (call : ConsumerCall) (tokens : Tokens) (body : Bytes) (request : ApiRequest) → consumer_request call tokens body ≡ Ok request → IsRead request
unfolding consumer_request
on_consumer_read consumer.Create tokens body request e =
    after _ (creation_of tokens body) _ request e
    (λ made is told. as_read (requests.ConsumerCreate made.stream made.consumer made.config made.update) request told (creation_is tokens body made is))
on_consumer_read consumer.DurableCreate tokens body request e =
    after _ (creation_of tokens body) _ request e
    (λ made is told. as_read (requests.ConsumerDurableCreate made.stream made.consumer made.config made.update) request told (creation_is tokens body made is))
on_consumer_read consumer.Info tokens body request e =
    after _ (names_of tokens) _ request e (λ names are made. as_read (requests.ConsumerInfo names.0 names.1) request made (names_are tokens names are))
on_consumer_read consumer.Delete tokens body request e =
    after _ (names_of tokens) _ request e (λ names are made. as_read (requests.ConsumerDelete names.0 names.1) request made (names_are tokens names are))
on_consumer_read consumer.MsgNext tokens body request e = as_read (requests.ConsumerMsgNext tokens.stream tokens.consumer (ask_of body)) request e (ask_proper body)

some_is : {X : Type 0} (x y : X) → Some x ≡ Some y → x ≡ y
some_is x y e = cc

read_on : (on_stream : Option (StreamCall × Bytes)) (on_consumer : Option (ConsumerCall × Tokens)) (body : Bytes) (request : ApiRequest)
    → or_on_consumer on_stream on_consumer body ≡ Some (Ok request) → IsRead request
read_on (Some (call, token)) on_consumer body request e = on_stream_read call token body request (some_is _ _ e)
read_on None (Some (call, tokens)) body request e = on_consumer_read call tokens body request (some_is _ _ e)
read_on None None body request e = absurd (cc)

read_by : (call : Option GeneralCall) (on_stream : Option (StreamCall × Bytes)) (on_consumer : Option (ConsumerCall × Tokens)) (body : Bytes) (request : ApiRequest)
    → or_on_stream call on_stream on_consumer body ≡ Some (Ok request) → IsRead request
read_by (Some call) on_stream on_consumer body request e = general_read call body request (some_is _ _ e)
read_by None on_stream on_consumer body request e = read_on on_stream on_consumer body request e

pub request_read : (subject body : Bytes) (request : ApiRequest) → request_of subject body ≡ Some (Ok request) → IsRead request
unfolding request_of
request_read subject body request e = read_by (general_call subject) (stream_call subject) (consumer_call subject) body request e
