-- Laws of frames that were not written: each has a byte.
use Rattle.std.proofs.Common.{◌≡◌, ℕ, true, is_some, [], ◌∷◌, ◌++◌, Option, Some, None, refl}
use Rattle.js_base.specs.Bytes.{Bytes}
use Rattle.js_base.specs.Framing.{frame}
use Rattle.js_base.specs.declared.frame.Frame.{Frame}
use Rattle.js_base.specs.declared.frame.Frame.TheVariants.{Info, Msg, Ping, Pong, Ok as Fine, Err as Error}
use Rattle.session.specs.Talk.{IsCutOff, IsWritten, greeting, last_line, last_text, line_of, is_parting}
use Rattle.session.specs.declared.ending.Limits.{Limits}
use Rattle.session.specs.declared.ending.Ended.{Ended}
use Rattle.session.specs.declared.ending.Ended.TheVariants as ends

pub frame_cut : (one : Frame) → IsCutOff [] (frame one)
frame_cut (Info client_id host port) = (73, _, refl)
frame_cut (Msg subject sid reply [] payload) = (77, _, refl)
frame_cut (Msg subject sid reply (h ∷ eaders) payload) = (72, _, refl)
frame_cut Ping = (80, _, refl)
frame_cut Pong = (80, _, refl)
frame_cut Fine = (43, _, refl)
frame_cut (Error text) = (45, _, refl)

pub greeting_cut : (limits : Limits) (session : ℕ) → IsCutOff [] (greeting limits session)
unfolding greeting
greeting_cut limits session = frame_cut (Info session limits.host limits.port)

text_cut : (text : Option Bytes) → is_some text ≡ true → IsCutOff [] (line_of text)
text_cut (Some text) h = frame_cut (Error text)
text_cut None h = cc

-- bytes and an error line
pub line_cut : (cause : Ended) (bytes : Bytes) → is_some (last_text cause) ≡ true → IsCutOff [] (bytes ++ last_line cause)
line_cut cause [] h = text_cut (last_text cause) h
line_cut cause (byte ∷ bytes) h = (byte, bytes ++ last_line cause, refl)

-- an end at which the session parts is no failed writing
pub parting_written : (cause : Ended) (bytes : Bytes) → is_parting cause ≡ true → IsWritten cause bytes bytes
parting_written ends.Closed bytes h = refl
parting_written (ends.Refused refusal) bytes h = refl
parting_written (ends.Slow size) bytes h = refl
parting_written ends.Stale bytes h = refl
parting_written ends.LinkFault bytes h = cc
parting_written ends.InputLimit bytes h = refl
parting_written ends.NoMemory bytes h = cc
