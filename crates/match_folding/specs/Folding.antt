-- The table by which bytes are compared under no_case. Document 02, request T-06.
use Rattle.std.specs.Prelude.{◌≡◌, List, ℕ, ◌<◌, length, get_or}
use Rattle.forms.specs.Bytes.{lower}

-- 256 entries: one from 0x41 to 0x5A is its place plus 32, any other its place
pub record FoldTable (t : List ℕ) : Type 0 where
  pub long : length t ≡ 256
  pub entry : (k : ℕ) → k < 256 → get_or t k 0 ≡ lower k
