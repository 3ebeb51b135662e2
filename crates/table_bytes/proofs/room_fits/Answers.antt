-- A byte is at most 255 by its type.
use Rattle.std.proofs.Common.{ℕ, length, leb, get_or, rules}
use borrow.Author.Tests.{le-leb}
use Rattle.definitions.specs.Limits.{max_byte}
use Rattle.list_laws.proofs.Every.{first_fit}
use Rattle.table_bytes.proofs.room_fits.Goals as goal

pub returns-then-used-s : goal.returns-then-used-s
returns-then-used-s c =
    let s = c.args.s.now in
    let bytes = first_fit (λ (b : ℕ). leb b max_byte) 0 c.args.used s (λ i. le-leb (get_or s i 0) max_byte (search rules)) in
    rw (le-leb c.args.used (length s) c.if-used-s.true, bytes) c.zero_from.ensures
