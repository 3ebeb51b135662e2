-- The loop over the packets of a block (`Renumbering`): those before its place have their number, and what all come to is these and what the others come to. It
-- begins with none (`renumbering_in`), a packet's number stays (`renumbering-kept`) or is set (`renumbering-set`), and at the end all have theirs (`renumbering_out`).
use Rattle.std.specs.Prelude.{if◌then◌else◌}
use mathlib.Core.Path.{◌≡◌, refl, sym, ap, ◌∙◌}
use mathlib.Core.Bool.{Bool, true, false, ◌&&◌}
use mathlib.Core.List.{List, [], ◌∷◌, ◌++◌}
use Prim.Native.Nat.{ℕ, suc, ◌+◌, ◌-◌, ◌<◌, ◌≤◌}
use native.Mathlib.Omega.{arith}
use lib.ListN.{length, get_or, take, drop, set, length-drop, length-set, take-append-drop}
use lib.Seq.{drop-drop, drop-cons, take-suc, take-suc-set, drop-set-lt, append_snoc}
use Rattle.definitions.specs.Blocks.{PacketRecord, record_length, record_of, records_up_to}
use Rattle.guard_numbers.specs.OpenNumbers.{is_open}
use Rattle.guard_packets.proofs.Records.{record_suc, record_whole, record_rest}
use Rattle.guard_blocks.specs.Numbering.{renumbered}

module _ (test : PacketRecord → Bool) (a : ℕ) where
  pub record Renumbering (block : List ℕ) (packets : ℕ) (out₀ out : List ℕ) (at i : ℕ) : Type 0 where
    pub within : at ≤ length block
    pub counted : i ≤ packets
    pub left : length (records_up_to (packets - i) (drop at block)) ≡ packets - i
    pub same : length out ≡ length out₀
    pub answer : renumbered test a (records_up_to packets block) out₀ ≡ take i out ++ renumbered test a (records_up_to (packets - i) (drop at block)) (drop i out)

  pub renumbering_in : (block : List ℕ) (packets : ℕ) (out : List ℕ) → length (records_up_to packets block) ≡ packets → Renumbering block packets out out 0 0
  renumbering_in block packets out e =
      let z : packets - 0 ≡ packets = omega arith in
      record { within = omega arith; counted = omega arith; left = rw z e; same = refl; answer = rw z }

  module _ {block : List ℕ} {packets : ℕ} {out₀ out : List ℕ} {at i : ℕ} (w : Renumbering block packets out₀ out at i) where
    pub renumbering_out : packets ≤ i → out ≡ renumbered test a (records_up_to packets block) out₀
    unfolding renumbered records_up_to
    renumbering_out h = let z : packets - i ≡ 0 = omega (arith, h) in sym (w.answer ∙ rw z (take-append-drop i out))

    module _ (more : i < packets) (room : packets ≤ length out₀) where
      one_less : packets - i ≡ suc (packets - (i + 1))
      one_less = omega (arith, more)

      left-suc : length (records_up_to (suc (packets - (i + 1))) (drop at block)) ≡ suc (packets - (i + 1))
      left-suc = rw one_less at w.left

      pub here-whole : record_length (drop at block) ≤ length (drop at block)
      here-whole = record_whole (packets - (i + 1)) (drop at block) left-suc

      pub step_within : at + record_length (drop at block) ≤ length block
      step_within = omega (arith, here-whole, length-drop at block, w.within)

      pub here-room : i < length out
      here-room = omega (arith, more, room, w.same)

      -- the packet at the front, and those after it
      records_are : records_up_to (packets - i) (drop at block)
          ≡ record_of (drop at block) ∷ records_up_to (packets - (i + 1)) (drop (at + record_length (drop at block)) block)
      records_are =
          ap (λ (n : ℕ). records_up_to n (drop at block)) one_less
          ∙ record_suc (packets - (i + 1)) (drop at block) here-whole
          ∙ ap (λ (l : List ℕ). record_of (drop at block) ∷ records_up_to (packets - (i + 1)) l) (drop-drop (record_length (drop at block)) at block)

      left-rest : length (records_up_to (packets - (i + 1)) (drop (at + record_length (drop at block)) block)) ≡ packets - (i + 1)
      left-rest =
          ap (λ (l : List ℕ). length (records_up_to (packets - (i + 1)) l)) (sym (drop-drop (record_length (drop at block)) at block))
          ∙ record_rest (packets - (i + 1)) (drop at block) left-suc

      -- y stands at the place afterwards
      step : (y : ℕ) (next : List ℕ) → length next ≡ length out → take (i + 1) next ≡ take i out ++ (y ∷ []) → drop (i + 1) next ≡ drop (i + 1) out
          → (if is_open (get_or out i 0) && test (record_of (drop at block)) then a else get_or out i 0) ≡ y
          → Renumbering block packets out₀ next (at + record_length (drop at block)) (i + 1)
      unfolding renumbered
      step y next n t d e =
          let z : suc i ≡ i + 1 = omega arith in
          let o : drop i out ≡ get_or out i 0 ∷ drop (i + 1) out = drop-cons out i 0 here-room ∙ ap (λ (k : ℕ). get_or out i 0 ∷ drop k out) z in
          record {
            within = step_within;
            counted = omega (arith, more);
            left = left-rest;
            same = n ∙ w.same;
            answer = w.answer ∙ rw (records_are, o, e, t, d) (sym (append_snoc (take i out) y _));
          }

      pub renumbering-kept : (is_open (get_or out i 0) && test (record_of (drop at block))) ≡ false
          → Renumbering block packets out₀ out (at + record_length (drop at block)) (i + 1)
      renumbering-kept f =
          let z : suc i ≡ i + 1 = omega arith in
          step (get_or out i 0) out refl (ap (λ (k : ℕ). take k out) (sym z) ∙ take-suc out i 0 here-room) refl (rw f)

      pub renumbering-set : (is_open (get_or out i 0) && test (record_of (drop at block))) ≡ true
          → Renumbering block packets out₀ (set out i a) (at + record_length (drop at block)) (i + 1)
      renumbering-set t =
          let z : suc i ≡ i + 1 = omega arith in
          step a (set out i a) (length-set out i a) (ap (λ (k : ℕ). take k (set out i a)) (sym z) ∙ take-suc-set out i a here-room)
          (drop-set-lt (i + 1) out i a (omega arith)) (rw t)
