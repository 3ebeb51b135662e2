-- The rules that are gone through, one after the other. When a rule decides: never where it is off (`off_never`) or its text is refused (`unread-never`), since a refused reading has no well-formed table; else exactly
-- if the table that was read is met (`on-met`). A table that was read is well formed (`read_formed`).
use Rattle.std.specs.Prelude.{Result, Ok, Err}
use mathlib.Core.Path.{◌≡◌, refl, sym, ap, ◌∙◌}
use mathlib.Core.Bool.{true, false, false≢true, and-false}
use mathlib.Core.List.{List, [], ◌∷◌, map}
use Prim.Native.Nat.{ℕ, ◌+◌, ◌<◌, ◌≤◌, min}
use native.Mathlib.Omega.{arith}
use lib.ListN.{length, get_or, take, length-take, drop_of_length-le}
use lib.Seq.{get_or-take}
use Rattle.definitions.specs.declared.packets.Direction.{Direction}
use Rattle.definitions.specs.declared.packets.FieldMap.{FieldMap}
use Rattle.definitions.specs.declared.table.Table.{Table}
use Rattle.definitions.specs.declared.books.LoadedRule.{LoadedRule}
use Rattle.definitions.specs.declared.books.Rules.{Rules}
use Rattle.definitions.specs.declared.answers.Refusal.{Refusal}
use Rattle.definitions.specs.declared.answers.Reading.{Reading}
use Rattle.definitions.specs.declared.books.Action.TheVariants.{Hold}
use Rattle.definitions.specs.declared.answers.TextRefusal.{TextRefusal}
use Rattle.definitions.specs.Limits.{document_limits}
use Rattle.definitions.specs.Tables.{name_in, table_of}
use Rattle.definitions.specs.Reading.{read, accepted_reading}
use Rattle.definitions.specs.WellFormed.{name_fits, well_formed}
use Rattle.definitions.specs.Answers.{input_check, verdict_answer}
use Rattle.definitions.specs.Books.{Rule}
use Rattle.definitions.specs.Decisions.{is_on, is_met, decides, decided}
use Rattle.definitions.specs.LoadedBooks.{rule_at}
use Rattle.rule_book.proofs.RulesFrom.{rules_from, rules_here}
use Rattle.laws.proofs.Refusing.{refused_empty}
use Rattle.roundtrip.proofs.Read.{read_shaped, read_well}
use Rattle.matcher.specs.Matching.{Matchable}
use Rattle.matcher.proofs.Matching.{formed_matchable}

-- the first n rules of an array of 64, as many as there are
module _ (book : List ℕ) (rs : Rules) (n : ℕ) (few : n ≡ min rs.count 64) (i : ℕ) where
  pub rules_next : (d : LoadedRule) → i < length (take n rs.list) → rules_from book rs i ≡ rule_at book (get_or (take n rs.list) i d) ∷ rules_from book rs (i + 1)
  rules_next d h =
      let long = length-take n rs.list in
      rules_here book rs i d (omega (arith, few, h, long)) (omega (arith, h, long))
      ∙ ap (λ (x : LoadedRule). rule_at book x ∷ rules_from book rs (i + 1)) (sym (get_or-take n rs.list i d (omega (arith, h, long))))

  pub rules_none : length rs.list ≡ 64 → length (take n rs.list) ≤ i → rules_from book rs i ≡ []
  rules_none size h =
      let past : length (take rs.count rs.list) ≤ i = omega (arith, few, size, h, length-take n rs.list, length-take rs.count rs.list) in
      ap (map (rule_at book)) (drop_of_length-le (take rs.count rs.list) past)

-- the empty table is not well formed: it has no name
empty_formed : (room : ℕ) → well_formed (table_of room []) ≡ false
unfolding well_formed name_fits table_of name_in
empty_formed room = refl

module _ (p decoded : List ℕ) (dir : Direction) (m : FieldMap) where
  -- 20 is due
  ill_formed_unmet : (t : Table) → well_formed t ≡ false → is_met (verdict_answer t p decoded dir m) ≡ false
  unfolding verdict_answer input_check
  ill_formed_unmet t e = rw e

  module _ (r : Rule) where
    pub off_never : is_on r.state ≡ false → decides document_limits p decoded dir m r ≡ false
    unfolding decides
    off_never e = rw e

    module _ (x : Reading) (e : x ≡ read document_limits r.source) where
      pub unread-never : (c : Refusal) (place : ℕ) → x.outcome ≡ Err (record { refusal = c; place = place }) → decides document_limits p decoded dir m r ≡ false
      unfolding decides
      unread-never c place k =
          let o : (read document_limits r.source).outcome ≡ Err (record { refusal = c; place = place }) = ap (λ (y : Reading). y.outcome) (sym e) ∙ k in
          let t = refused_empty document_limits r.source (λ a. accepted_not (sym a ∙ o)) in
          rw (t, ill_formed_unmet (table_of document_limits.room []) (empty_formed document_limits.room)) (and-false (is_on r.state))
        where
          accepted_not : ◌≡◌ {A = Result Unit TextRefusal} (Ok tt) (Err (record { refusal = c; place = place })) → ⊥
          accepted_not q = let z : false ≡ true = cc in false≢true z

      pub on-met : is_on r.state ≡ true → is_met (verdict_answer x.table p decoded dir m) ≡ decides document_limits p decoded dir m r
      unfolding decides
      on-met o = rw (e, o)

module _ (s : List ℕ) (x : Reading) (e : x ≡ read document_limits s) (a : x.outcome ≡ Ok tt) where
  accepted : read document_limits s ≡ accepted_reading x.table
  accepted = sym e ∙ ap (λ (o : Result Unit TextRefusal). record { outcome = o; table = x.table }) a

  pub read_formed : well_formed x.table ≡ true
  read_formed = read_well document_limits s x.table (omega arith) accepted

  pub read_matchable : Matchable x.table.items x.table.count x.table.bytes
  read_matchable =
      let n = (read_shaped document_limits s x.table (omega arith) accepted).roomy in
      formed_matchable x.table read_formed (omega (arith, n))

module _ (p decoded : List ℕ) (dir : Direction) (m : FieldMap) (r : Rule) (rs : List Rule) where
  pub decided_here : decides document_limits p decoded dir m r ≡ true → decided document_limits p decoded dir m (r ∷ rs) ≡ Ok (record { action = r.action; rule = r.number })
  unfolding decided
  decided_here e = rw e

  pub decided_on : decides document_limits p decoded dir m r ≡ false → decided document_limits p decoded dir m (r ∷ rs) ≡ decided document_limits p decoded dir m rs
  unfolding decided
  decided_on e = rw e

-- no rule is left
pub ended : (p decoded : List ℕ) (dir : Direction) (m : FieldMap) → decided document_limits p decoded dir m [] ≡ Ok (record { action = Hold; rule = 0 })
unfolding decided
ended p decoded dir m = refl
