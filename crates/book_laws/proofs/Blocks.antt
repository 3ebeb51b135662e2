-- A BLOCK'S ANSWERS ARE THOSE OF `decide`, PACKET BY PACKET: for a loaded book that is accepted, each number is that of the book's decision on its packet.
-- Document 02, T-03.
use Rattle.std.specs.Prelude.{Ok}
use mathlib.Core.Path.{◌≡◌, sym, ap, ◌∙◌, fun_ext}
use mathlib.Core.List.{List, ◌++◌, map}
use Prim.Native.Nat.{ℕ}
use lib.ListN.{length, drop}
use Rattle.definitions.specs.Limits.{Limits}
use Rattle.definitions.specs.Books.{Rule, judge}
use Rattle.definitions.specs.Decisions.{decision}
use Rattle.definitions.specs.LoadedBooks.{rules_in, loaded}
use Rattle.definitions.specs.Blocks.{PacketRecord, records_up_to, decision_number, record_number, block_numbers}
use Rattle.book_laws.proofs.Loaded.{loaded_rules}
use Rattle.book_laws.proofs.Deciding.{by_rules}

-- the number of a book's decision on a record's packet
abbrev pub decision_on : Limits → List ℕ → PacketRecord → ℕ
decision_on lim book k = decision_number (decision lim k.packet k.decoded k.direction k.fields book)

pub block_decides : (lim : Limits) (book : List ℕ) (n : ℕ) → judge lim book ≡ Ok n → (block out : List ℕ)
    → block_numbers lim (rules_in book (loaded lim book).rules) block out
    ≡ map (decision_on lim book) (records_up_to (length out) block) ++ drop (length (records_up_to (length out) block)) out
unfolding block_numbers record_number
block_decides lim book n accepted block out =
    ap (λ (rs : List Rule). map (record_number lim rs) (records_up_to (length out) block) ++ drop (length (records_up_to (length out) block)) out)
    (loaded_rules lim book n accepted)
    ∙ ap (λ (f : PacketRecord → ℕ). map f (records_up_to (length out) block) ++ drop (length (records_up_to (length out) block)) out)
    (fun_ext (λ k. ap decision_number (sym (by_rules lim k.packet k.decoded k.direction k.fields book n accepted))))
