-- What document 01 leaves out is refused, by computation: the name of an option left out with 5 at its first dash, a form left out of a listed option
-- with 6 at the first byte that is left out. One statement over one table.
use Rattle.std.specs.Prelude.{Result}
use mathlib.Core.Path.{◌≡◌, refl}
use mathlib.Core.Bool.{Bool, true, ◌&&◌}
use mathlib.Core.List.{List, [], ◌∷◌, ◌++◌}
use Prim.Native.Nat.{ℕ, ◌+◌}
use Prim.Native.String.{String}
use lib.ListN.{length}
use lib.Dec.{eqb}
use Rattle.forms.specs.Bytes.{text}
use Rattle.definitions.specs.Limits.{document_limits}
use Rattle.definitions.specs.Lists.{all?}
use Rattle.definitions.specs.Refusals.{read_number, read_place}
use Rattle.definitions.specs.Reading.{read}
use Rattle.definitions.specs.Computing.{computing}
use Rattle.definitions.specs.declared.answers.TextRefusal.{TextRefusal}

-- a refusal's number, how many bytes of the option stand before its place, and an option after its two dashes
pub record LeftOut : Type 0 where
  pub number : ℕ
  pub passed : ℕ
  pub option : String

pub row : ℕ → ℕ → String → LeftOut
row n p s = record { number = n; passed = p; option = s }

pub left_out : List LeftOut
left_out =
    row 5 0 "pcre 1;" ∷
    row 5 0 "byte_jump 1;" ∷
    row 5 0 "tag 1;" ∷
    row 5 0 "rate 1;" ∷
    row 5 0 "track 1;" ∷
    row 5 0 "log 1;" ∷
    row 5 0 "service 1;" ∷
    row 5 0 "parsed_type 1;" ∷
    row 5 0 "file_type 1;" ∷
    row 5 0 "crc32 1;" ∷
    row 5 0 "packet_origin 1;" ∷
    row 5 0 "distance_abs 1;" ∷
    row 5 0 "within_abs 1;" ∷
    row 6 8 "ip.id in [1,5];" ∷
    row 6 18 "src_addr 1.2.3.4:5;" ∷
    row 6 11 "src_addr ::1;" ∷
    row 6 12 "protocol ip;" ∷
    row 6 7 "flow bi_direction;" ∷
    row 6 16 "context packet_origin;" ∷
    row 6 13 "distance 5,lasttag;" ∷
    []

-- the option stands after these
pub front : List ℕ
front = text "F-SBID(--name \"n\";--protocol 6;"

pub refused_at : ℕ → ℕ → Result Unit TextRefusal → Bool
refused_at n p o = eqb (read_number o) n && eqb (read_place o) p

pub refused : LeftOut → Bool
refused l = refused_at l.number (length front + l.passed) (read document_limits (front ++ (text "--" ++ (text l.option ++ text ")")))).outcome

pub left_out_lem : all? refused left_out ≡ true
unfolding computing row left_out front refused_at refused
left_out_lem = refl
