-- The class of a name's bytes is the definition's test: by whether the byte is a capital.
use mathlib.Core.Path.{◌≡◌}
use mathlib.Core.Bool.{true}
use Prim.Native.Nat.{ℕ, ◌+◌}
use native.Mathlib.Omega.{arith}
use lib.Dec.{leb}
use borrow.Author.Tests.{le-leb, leb-true}
use Rattle.forms.specs.Bytes.{between, lower}
use Rattle.forms.specs.Form.{has}
use Rattle.forms.proofs.Bools.{by_cases, both_left, both_right, or-false}
use Rattle.forms.proofs.Words.{span_one}
use Rattle.definitions.specs.Options.{in_name}
use Rattle.scan_bytes.specs.Classes.{class_of}
use Rattle.scan_bytes.specs.declared.bytes.Class.TheVariants.{NameByte}

-- 32 after a capital stands its small letter
small_letter : (b : ℕ) → between 65 90 b ≡ true → between 97 122 (b + 32) ≡ true
small_letter b t =
    let low = leb-true 65 b (both_left (leb 65 b) (leb b 90) t) in
    let high = leb-true b 90 (both_right (leb 65 b) (leb b 90) t) in
    rw (le-leb 97 (b + 32) (omega arith), le-leb (b + 32) 122 (omega arith))

pub name_bytes : (b : ℕ) → has (class_of NameByte) b ≡ in_name b
unfolding has in_name lower
name_bytes b =
    by_cases (between 65 90 b)
    (λ t. rw (t, small_letter b t))
    (λ t. rw (t, span_one b 95, span_one b 46, or-false))
