-- The sample of section "The line program": the whole output for the whole input, by computation.
use mathlib.Core.Path.{◌≡◌, refl}
use mathlib.Core.List.{List, ◌++◌}
use Prim.Native.Nat.{ℕ}
use Rattle.forms.specs.Bytes.{text}
use Rattle.definitions.specs.Limits.{document_limits}
use Rattle.definitions.specs.Lines.{program_output}
use Rattle.definitions.specs.Computing.{computing}

pub input : List ℕ
input =
    text "F-SBID( --name \"H.SET\"; --protocol TCP; --pattern \"SET|20|\"; --within 10; )\n"
    ++ text "F-SBID()\n"

pub output : List ℕ
output =
    text "1\tok\tF-SBID( --name \"H.SET\"; --protocol 6; --pattern \"SET \"; --within 10; )\n"
    ++ text "2\t12\t8\n"

pub sample : program_output document_limits input ≡ output
unfolding computing input output
sample = refl
