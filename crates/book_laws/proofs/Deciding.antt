-- WHICH RULE DECIDES. For an accepted book the decision is that of the lowest numbered rule that is on and has a placement (`decides_exactly`), and hold with 0
-- exactly if there is none (`holds_exactly`). A refused book's answer is its refusal, whatever the packet (`refused_alone`). A packet for which 30 to 35 is due is
-- held with 0 by every accepted book (`refused_packet_held`). By the rising numbers, the first rule of the list that decides is the lowest. Document 02, T-03.
use Rattle.std.specs.Prelude.{Result, Ok, Err}
use mathlib.Core.Path.{◌≡◌, refl, sym, ap, subst, ◌∙◌}
use mathlib.Core.Logic.{◌↔◌, ◌⊎◌, inl, inr, ⊎_elim}
use mathlib.Core.Bool.{Bool, true, false, not, and-false}
use mathlib.Core.List.Memᴰ.{head as here}
use mathlib.Core.List.Memᴰ.{not-nil}
use mathlib.Core.List.Memᴰ.{tail as there}
use mathlib.Core.List.{List, [], ◌∷◌, Memᴰ as Mem}
use mathlib.Core.List.Memᴰ.{cases_cons}
use Prim.Native.Nat.{ℕ, suc, ◌<◌}
use native.Mathlib.Omega.{arith}
use Rattle.forms.proofs.Bools.{by_cases}
use Rattle.definitions.specs.declared.packets.Direction.{Direction}
use Rattle.definitions.specs.declared.packets.FieldMap.{FieldMap}
use Rattle.definitions.specs.declared.table.Table.{Table}
use Rattle.definitions.specs.declared.answers.Refusal.{Refusal}
use Rattle.definitions.specs.declared.answers.Refusal.TheVariants as refusal
use Rattle.definitions.specs.declared.packets.Start.{Start}
use Rattle.definitions.specs.declared.books.Action.{Action}
use Rattle.definitions.specs.declared.books.Action.TheVariants.{Hold}
use Rattle.definitions.specs.declared.books.Decision.{Decision}
use Rattle.definitions.specs.declared.answers.BookRefusal.{BookRefusal}
use Rattle.definitions.specs.Limits.{Limits}
use Rattle.definitions.specs.Refusals.{refuse_if, and_then}
use Rattle.definitions.specs.Reading.{read}
use Rattle.definitions.specs.WellFormed.{well_formed}
use Rattle.definitions.specs.Packet.{datagram_of, payload_of, packet_check}
use Rattle.definitions.specs.Fields.{fields_check}
use Rattle.definitions.specs.Answers.{verdict_by, input_check, placements_of, verdict_answer}
use Rattle.definitions.specs.Books.{Rule, rules_of, judge}
use Rattle.definitions.specs.Decisions.{is_on, is_met, decides, decided, decision}
use Rattle.book_laws.proofs.Rising.{Rises, rises_over, rules_rise}

-- a decision's action and rule
abbrev rule_in : Result Decision BookRefusal → ℕ
rule_in (Ok d) = d.rule
rule_in (Err e) = 0

abbrev action_in : Result Decision BookRefusal → Action
action_in (Ok d) = d.action
action_in (Err e) = Hold

module _ (lim : Limits) (p decoded : List ℕ) (dir : Direction) (m : FieldMap) where
  -- the lowest numbered rule of a list that decides
  pub record Lowest (rs : List Rule) (r : Rule) : Type 0 where
    pub listed : Mem r rs
    pub deciding : decides lim p decoded dir m r ≡ true
    pub lowest : (s : Rule) → Mem s rs → s.number < r.number → decides lim p decoded dir m s ≡ false

  -- ---- of a list of rules whose numbers rise

  pub none_decides : (rs : List Rule) → ((r : Rule) → Mem r rs → decides lim p decoded dir m r ≡ false)
      → decided lim p decoded dir m rs ≡ Ok (record { action = Hold; rule = 0 })
  unfolding decided
  none_decides [] f = refl
  none_decides (r ∷ rs) f = rw (f r (here refl)) (none_decides rs (λ s n. f s (there n)))

  lowest_decides : (last : ℕ) (rs : List Rule) → Rises last rs → (r : Rule) → Lowest rs r
      → decided lim p decoded dir m rs ≡ Ok (record { action = r.action; rule = r.number })
  unfolding decided Rises
  lowest_decides last [] h r w = absurd (not-nil w.listed)
  lowest_decides last (x ∷ rs) h r w =
      ⊎_elim
      (λ e. subst (λ (y : Rule). decided lim p decoded dir m (y ∷ rs) ≡ Ok (record { action = r.action; rule = r.number })) e (rw w.deciding))
      (λ n. rw (w.lowest x (here refl) (rises_over x.number rs h.1 r n))
      (lowest_decides x.number rs h.1 r (record { listed = n; deciding = w.deciding; lowest = λ s k q. w.lowest s (there k) q })))
      (cases_cons w.listed)

  -- one of them is the lowest, or there is none
  some_lowest : (last : ℕ) (rs : List Rule) → Rises last rs
      → ((r : Rule) × Lowest rs r) ⊎ ((r : Rule) → Mem r rs → decides lim p decoded dir m r ≡ false)
  unfolding Rises
  some_lowest last [] h = inr (λ r n. absurd (not-nil n))
  some_lowest last (x ∷ rs) h =
      by_cases (decides lim p decoded dir m x)
      (λ t. inl (x, record { listed = here refl; deciding = t; lowest = λ s n q. low s (cases_cons n) q }))
      (λ f. ⊎_elim
      (λ w. inl (w.0, record { listed = there w.1.listed; deciding = w.1.deciding; lowest = λ s n q. after f w.0 w.1 s (cases_cons n) q }))
      (λ g. inr (λ s n. none f g s (cases_cons n)))
      (some_lowest x.number rs h.1))
    where
      low : (s : Rule) → (s ≡ x) ⊎ Mem s rs → s.number < x.number → decides lim p decoded dir m s ≡ false
      low s (inl e) q = let z : x.number < x.number = rw e at q in absurd (omega (arith, z))
      low s (inr n) q = absurd (omega (arith, q, rises_over x.number rs h.1 s n))

      after : decides lim p decoded dir m x ≡ false → (r : Rule) → Lowest rs r → (s : Rule) → (s ≡ x) ⊎ Mem s rs → s.number < r.number
          → decides lim p decoded dir m s ≡ false
      after f r w s (inl e) q = rw e f
      after f r w s (inr n) q = w.lowest s n q

      none : decides lim p decoded dir m x ≡ false → ((r : Rule) → Mem r rs → decides lim p decoded dir m r ≡ false) → (s : Rule) → (s ≡ x) ⊎ Mem s rs
          → decides lim p decoded dir m s ≡ false
      none f g s (inl e) = rw e f
      none f g s (inr n) = g s n

  -- ---- of a packet for which 30 to 35 is due

  refused_unmet : (r : Refusal) → and_then (packet_check p decoded) (fields_check (payload_of (datagram_of p)) decoded m) ≡ Err r
      → (t : Table) → is_met (verdict_answer t p decoded dir m) ≡ false
  unfolding verdict_answer input_check
  refused_unmet r e t = rw e (unmet (not (well_formed t)) (placements_of t p decoded dir m))
    where
      unmet : (b : Bool) (l : List (List Start)) → is_met (verdict_by (refuse_if b refusal.IllFormed (Err r)) l) ≡ false
      unmet true l = refl
      unmet false l = refl

  -- no rule decides
  refused_undecided : (r : Refusal) → and_then (packet_check p decoded) (fields_check (payload_of (datagram_of p)) decoded m) ≡ Err r
      → (s : Rule) → decides lim p decoded dir m s ≡ false
  unfolding decides
  refused_undecided r e s = rw (refused_unmet r e (read lim s.source).table) (and-false (is_on s.state))

  -- ---- of a book

  pub refused_alone : (book : List ℕ) (r : Refusal) (line : ℕ) → judge lim book ≡ Err (record { refusal = r; line = line })
      → decision lim p decoded dir m book ≡ Err (record { refusal = r; line = line })
  unfolding decision
  refused_alone book r line e = rw e

  module _ (book : List ℕ) (n : ℕ) (accepted : judge lim book ≡ Ok n) where
    pub by_rules : decision lim p decoded dir m book ≡ decided lim p decoded dir m (rules_of book)
    unfolding decision
    by_rules = rw accepted

    pub decides_exactly : (a : Action) (k : ℕ)
        → (decision lim p decoded dir m book ≡ Ok (record { action = a; rule = suc k }))
        ↔ ((r : Rule) × Lowest (rules_of book) r × (r.action ≡ a) × (r.number ≡ suc k))
    decides_exactly a k = (
      (λ e. ⊎_elim
          (λ w. let d = sym (lowest_decides 0 (rules_of book) (rules_rise lim book n accepted) w.0 w.1) ∙ sym by_rules ∙ e in
          (w.0, w.1, ap action_in d, ap rule_in d))
          (λ g. let z : 0 ≡ suc k = ap rule_in (sym (none_decides (rules_of book) g) ∙ sym by_rules ∙ e) in absurd (omega (arith, z)))
          (some_lowest 0 (rules_of book) (rules_rise lim book n accepted))),
      (λ w. by_rules ∙ lowest_decides 0 (rules_of book) (rules_rise lim book n accepted) w.0 w.1 ∙ rw (w.2, w.3)),
    )

    pub holds_exactly : (a : Action)
        → (decision lim p decoded dir m book ≡ Ok (record { action = a; rule = 0 }))
        ↔ ((a ≡ Hold) × ((r : Rule) → Mem r (rules_of book) → decides lim p decoded dir m r ≡ false))
    holds_exactly a = (
      (λ e. ⊎_elim
          (λ w. let d : w.0.number ≡ 0 =
          ap rule_in (sym (lowest_decides 0 (rules_of book) (rules_rise lim book n accepted) w.0 w.1) ∙ sym by_rules ∙ e) in
          absurd (omega (arith, d, rises_over 0 (rules_of book) (rules_rise lim book n accepted) w.0 w.1.listed)))
          (λ g. (ap action_in (sym e ∙ by_rules ∙ none_decides (rules_of book) g), g))
          (some_lowest 0 (rules_of book) (rules_rise lim book n accepted))),
      (λ w. by_rules ∙ none_decides (rules_of book) w.1 ∙ rw w.0),
    )

    -- 30 to 35 are due of the packet: whatever the rules are
    pub refused_packet_held : (r : Refusal) → and_then (packet_check p decoded) (fields_check (payload_of (datagram_of p)) decoded m) ≡ Err r
        → decision lim p decoded dir m book ≡ Ok (record { action = Hold; rule = 0 })
    refused_packet_held r e = by_rules ∙ none_decides (rules_of book) (λ s k. refused_undecided r e s)
