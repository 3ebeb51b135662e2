-- BY THE BOOK: a refused one gives its line, whatever the trace; by an accepted one a line that is not bad has the decision that the node guard gives its
-- packet.
use Rattle.std.specs.Prelude.{Result, Ok, Err, ℕ}
use mathlib.Core.Path.{◌≡◌, sym, ap}
use mathlib.Core.Bool.{true, false}
use mathlib.Core.List.{List}
use Prim.Native.Nat.{ℕ}
use Rattle.definitions.specs.declared.answers.Refusal.{Refusal}
use Rattle.definitions.specs.declared.answers.BookRefusal.{BookRefusal}
use Rattle.definitions.specs.Limits.{Limits}
use Rattle.definitions.specs.Books.{rules_of, judge}
use Rattle.definitions.specs.Decisions.{decided_if, decision}
use Rattle.replay_laws.specs.Traces.{is_trace_line, trace_record}
use Rattle.replay_laws.specs.Replays.{bad, outcome_by, outcome, trace_output, refused_output, output_if, replay_output}

module _ (lim : Limits) (book : List ℕ) where
  pub refused_alone : (r : Refusal) (line : ℕ) → judge lim book ≡ Err (record { refusal = r; line = line }) → (input : List ℕ)
      → replay_output lim book input ≡ refused_output r line
  unfolding replay_output
  refused_alone r line e input = ap (λ (j : Result ℕ BookRefusal). output_if j lim (rules_of book) input) e

  module _ (n : ℕ) (e : judge lim book ≡ Ok n) where
    pub accepted_whole : (input : List ℕ) → replay_output lim book input ≡ trace_output lim (rules_of book) input
    unfolding replay_output
    accepted_whole input = ap (λ (j : Result ℕ BookRefusal). output_if j lim (rules_of book) input) e

    pub line_decided : (l : List ℕ) → is_trace_line l ≡ true → outcome lim (rules_of book) l
        ≡ outcome_by (decision lim (trace_record l).packet (trace_record l).decoded (trace_record l).direction (trace_record l).fields book)
    unfolding outcome decision
    line_decided l t =
        let k = trace_record l in
        rw t
        (sym (ap (λ (j : Result ℕ BookRefusal). outcome_by (decided_if lim k.packet k.decoded k.direction k.fields j (rules_of book))) e))

  pub bad_line : (l : List ℕ) → is_trace_line l ≡ false → outcome lim (rules_of book) l ≡ bad
  unfolding outcome
  bad_line l f = rw f
