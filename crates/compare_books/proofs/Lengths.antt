-- What is put for two books from the start of a buffer on ends within 2,048 bytes.
use mathlib.Core.Path.{◌≡◌, ap, ◌∙◌}
use mathlib.Core.List.{List}
use Prim.Native.Nat.{ℕ, ◌+◌, ◌≤◌}
use native.Mathlib.Omega.{arith}
use lib.ListN.{length}
use Rattle.definitions.specs.Limits.{Limits}
use Rattle.write_bytes.specs.Puts.{max_counted, Puts}
use Rattle.write_bytes.proofs.Whole.{most_of, puts_count}
use Rattle.compare_laws.specs.Comparisons.{compare_output}
use Rattle.compare_laws.proofs.Lengths.{compare_most}

pub compare_within : (lim : Limits) (first second : List ℕ) {out after : List ℕ} {n : ℕ} → Puts out 0 (compare_output lim first second) after n → n ≤ 2048
compare_within lim first second {out = out} {n = n} p =
    let l = compare_output lim first second in
    let counted : n ≡ 0 + length l =
    ap (λ (x : List ℕ × ℕ). x.1) p.is
    ∙ puts_count out 0 l (omega arith)
    ∙ most_of (0 + length l) max_counted (omega (arith, compare_most lim first second)) in
    omega (arith, counted, compare_most lim first second)
