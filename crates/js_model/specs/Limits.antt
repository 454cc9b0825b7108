-- How many places there may be, and how long a page of a list is, by the JetStream API reference.
use Rattle.std.specs.Prelude.{ℕ}

-- the places are numbered from 0 on, and each has one stream at most
abbrev pub places : ℕ
places = 32

abbrev pub last_place : ℕ
last_place = 31

-- how many names an answer lists at most
abbrev pub names_a_page : ℕ
names_a_page = 1024

-- how many informations an answer lists at most
abbrev pub infos_a_page : ℕ
infos_a_page = 256
