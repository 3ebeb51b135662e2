-- The verdict that the answer to "first" comes to. Document 01, section "Meaning": met exactly if some placement meets the table.
use Rattle.std.specs.Prelude.{Result, Ok, Err}
use Rattle.definitions.specs.declared.answers.Found.{Found}
use Rattle.definitions.specs.declared.answers.Found.TheVariants as found
use Rattle.definitions.specs.declared.answers.Verdict.{Verdict}
use Rattle.definitions.specs.declared.answers.Verdict.TheVariants as verdict
use Rattle.definitions.specs.declared.answers.Refusal.{Refusal}

abbrev pub verdict_of : Result Found Refusal → Result Verdict Refusal
verdict_of (Ok found.Placed) = Ok verdict.Met
verdict_of (Ok found.Nothing) = Ok verdict.NotMet
verdict_of (Err r) = Err r
