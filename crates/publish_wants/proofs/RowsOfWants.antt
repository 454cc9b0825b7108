-- Worked examples of what the headers of a publish ask.
use Rattle.std.specs.Prelude.{◌≡◌, [], Some, None, codes, refl}
use Rattle.nats_headers.specs.Reading.{header}
use Rattle.publish_wants.specs.Wants.{wants_of}

none : wants_of [] ≡ record { bad = None; id = []; stream = None; last = None; subject_last = None; last_id = None }
unfolding wants_of header
none = refl

-- a block without a field of these names
no_field : wants_of (codes "NATS/1.0\r\nColor: red\r\n\r\n") ≡ record { bad = None; id = []; stream = None; last = None; subject_last = None; last_id = None }
unfolding wants_of header
no_field = refl

id : wants_of (codes "NATS/1.0\r\nNats-Msg-Id: a-1\r\n\r\n")
    ≡ record { bad = None; id = codes "a-1"; stream = None; last = None; subject_last = None; last_id = None }
unfolding wants_of header
id = refl

stream : wants_of (codes "NATS/1.0\r\nNats-Expected-Stream: ORDERS\r\n\r\n")
    ≡ record { bad = None; id = []; stream = Some (codes "ORDERS"); last = None; subject_last = None; last_id = None }
unfolding wants_of header
stream = refl

-- leading zeros are allowed, and 0 stands for a stream without messages
last : wants_of (codes "NATS/1.0\r\nNats-Expected-Last-Sequence: 007\r\n\r\n")
    ≡ record { bad = None; id = []; stream = None; last = Some 7; subject_last = None; last_id = None }
unfolding wants_of header
last = refl

subject_last : wants_of (codes "NATS/1.0\r\nNats-Expected-Last-Subject-Sequence: 0\r\n\r\n")
    ≡ record { bad = None; id = []; stream = None; last = None; subject_last = Some 0; last_id = None }
unfolding wants_of header
subject_last = refl

last_id : wants_of (codes "NATS/1.0\r\nNats-Expected-Last-Msg-Id: a-0\r\n\r\n")
    ≡ record { bad = None; id = []; stream = None; last = None; subject_last = None; last_id = Some (codes "a-0") }
unfolding wants_of header
last_id = refl

-- all of them in one block, in any order
all : wants_of (codes "NATS/1.0\r\nNats-Expected-Last-Msg-Id:a-0\r\nNats-Expected-Stream:S\r\nNats-Msg-Id:a-1\r\nNats-Expected-Last-Subject-Sequence:3\r\nNats-Expected-Last-Sequence:9\r\n\r\n")
    ≡ record { bad = None; id = codes "a-1"; stream = Some (codes "S"); last = Some 9; subject_last = Some 3; last_id = Some (codes "a-0") }
unfolding wants_of header
all = refl

-- an empty value is none, of a number too
empty : wants_of (codes "NATS/1.0\r\nNats-Msg-Id:\r\nNats-Expected-Stream: \r\nNats-Expected-Last-Sequence:\r\n\r\n")
    ≡ record { bad = None; id = []; stream = None; last = None; subject_last = None; last_id = None }
unfolding wants_of header
empty = refl

-- and hides a later field of its name
empty_first : wants_of (codes "NATS/1.0\r\nNats-Msg-Id:\r\nNats-Msg-Id: a-1\r\n\r\n")
    ≡ record { bad = None; id = []; stream = None; last = None; subject_last = None; last_id = None }
unfolding wants_of header
empty_first = refl

wrong_last : wants_of (codes "NATS/1.0\r\nNats-Expected-Last-Sequence: x\r\nNats-Msg-Id: a-1\r\n\r\n")
    ≡ record { bad = Some (codes "Nats-Expected-Last-Sequence"); id = codes "a-1"; stream = None; last = None; subject_last = None; last_id = None }
unfolding wants_of header
wrong_last = refl

wrong_subject_last : wants_of (codes "NATS/1.0\r\nNats-Expected-Last-Subject-Sequence: -1\r\nNats-Expected-Last-Sequence: 1\r\n\r\n")
    ≡ record { bad = Some (codes "Nats-Expected-Last-Subject-Sequence"); id = []; stream = None; last = Some 1; subject_last = None; last_id = None }
unfolding wants_of header
wrong_subject_last = refl

-- whichever stands first in the block, that of the stream is told
both_wrong : wants_of (codes "NATS/1.0\r\nNats-Expected-Last-Subject-Sequence: y\r\nNats-Expected-Last-Sequence: x\r\n\r\n")
    ≡ record { bad = Some (codes "Nats-Expected-Last-Sequence"); id = []; stream = None; last = None; subject_last = None; last_id = None }
unfolding wants_of header
both_wrong = refl

too_great : wants_of (codes "NATS/1.0\r\nNats-Expected-Last-Sequence: 4611686018427387904\r\n\r\n")
    ≡ record { bad = Some (codes "Nats-Expected-Last-Sequence"); id = []; stream = None; last = None; subject_last = None; last_id = None }
unfolding wants_of header
too_great = refl

greatest : wants_of (codes "NATS/1.0\r\nNats-Expected-Last-Sequence: 4611686018427387903\r\n\r\n")
    ≡ record { bad = None; id = []; stream = None; last = Some 4611686018427387903; subject_last = None; last_id = None }
unfolding wants_of header
greatest = refl

-- the first field of a name counts
twice : wants_of (codes "NATS/1.0\r\nNats-Expected-Last-Sequence: 1\r\nNats-Expected-Last-Sequence: x\r\n\r\n")
    ≡ record { bad = None; id = []; stream = None; last = Some 1; subject_last = None; last_id = None }
unfolding wants_of header
twice = refl

-- a name is compared byte by byte
other_case : wants_of (codes "NATS/1.0\r\nnats-msg-id: a-1\r\n\r\n")
    ≡ record { bad = None; id = []; stream = None; last = None; subject_last = None; last_id = None }
unfolding wants_of header
other_case = refl
