-- OF THE ENTRY `write` ITSELF, whatever table it is given. What it writes reads back: where it answers that n bytes are written, the first n bytes of the
-- buffer read as that table. And it answers 20 exactly if no text reads as the table. That the table's arrays have their lengths is part of what a value
-- of its type is (`typed_shaped`). So it answers 20 for a table that holds an item of the old kind, ip_id, whatever else that holds.
use Rattle.std.specs.Prelude.{Result, Ok, ℕ}
use mathlib.Core.Path.{◌≡◌, sym, ap, ◌∙◌}
use mathlib.Core.Bool.{true}
use mathlib.Core.List.{List}
use mathlib.Core.Logic.{◌↔◌}
use Prim.Native.Nat.{ℕ}
use native.Mathlib.Omega.{arith}
use lib.ListN.{take}
use contract.Lifetimes.{Lfts}
use denote.Ref.{MutBor}
use denote.Triple.Clauses.{AtExit}
use borrow.Fn.Kinds.{ended_of, GoodsP}
use Rattle.definitions.specs.declared.table.Table.{Table}
use Rattle.definitions.specs.declared.answers.Refusal.{Refusal}
use Rattle.definitions.specs.Limits.{document_limits}
use Rattle.definitions.specs.Refusals.{write_number}
use Rattle.definitions.specs.Reading.{accepted_reading, read}
use Rattle.definitions.specs.WellFormed.{Readable}
use Rattle.definitions.specs.IpId.{holds_ip_id}
use Rattle.laws.proofs.IllFormed.{write_ill_formed}
use Rattle.laws.proofs.OldKind.{write_ip_id}
use Rattle.roundtrip.proofs.Buffer.{written_reads}
use Rattle.roundtrip.proofs.Typed.{typed_shaped, twenty_unreadable}
use Rattle.writer.proofs.write.Reads as write
use Rattle.writer.proofs.write.Kinds as write-kinds

-- `good` is what the check knows of the arguments of a call, `post` the contract of `write` at its answer r, and s what the arguments are at its exit
module _ (κs : Lfts 1) (t : Table) (out : MutBor (List ℕ)) (r : Result ℕ Refusal) (s : AtExit (ended_of 1 write-kinds.ps write-kinds.r) κs)
    (good : GoodsP κs write-kinds.ps (t, (out, tt))) (post : write.Post κs (t, (out, tt)) r s) where
  pub write_reads : (n : ℕ) → r ≡ Ok n → read document_limits (take n s.1.0.now) ≡ accepted_reading t
  write_reads n e = rw post.1.0 (written_reads document_limits t out.now n (typed_shaped t _ good.0) (omega arith) (sym post.0 ∙ e))

  pub write_unreadable : (write_number r ≡ 20) ↔ (Readable document_limits.room t → ⊥)
  write_unreadable = twenty_unreadable t _ good.0 (ap write_number post.0) (write_ill_formed document_limits t out.now)

  pub write_refuses_ip_id : holds_ip_id t ≡ true → write_number r ≡ 20
  write_refuses_ip_id h = ap write_number post.0 ∙ write_ip_id document_limits t out.now h
