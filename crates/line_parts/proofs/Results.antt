-- A parser's answer, the value where a test holds and else that it failed: what it tells of the test and of the value.
use Rattle.std.specs.Prelude.{if◌then◌else◌}
use mathlib.Core.Path.{◌≡◌, refl, sym}
use mathlib.Core.Bool.{Bool, true, false}

-- an enum of two cases, which are apart
module _ {A R : Type 0} (parsed : A → R) (failed : R) (apart : (x : A) → parsed x ≡ failed → ⊥) where
  pub failed_test : (t : Bool) (x : A) → (if t then parsed x else failed) ≡ failed → t ≡ false
  failed_test true x e = absurd (apart x e)
  failed_test false x e = refl

  pub parsed_test : (t : Bool) (x v : A) → (if t then parsed x else failed) ≡ parsed v → t ≡ true
  parsed_test true x v e = refl
  parsed_test false x v e = absurd (apart v (sym e))

  pub parsed_value : ((x y : A) → parsed x ≡ parsed y → x ≡ y) → (t : Bool) (x v : A) → (if t then parsed x else failed) ≡ parsed v → x ≡ v
  parsed_value same true x v e = same x v e
  parsed_value same false x v e = absurd (apart v (sym e))
