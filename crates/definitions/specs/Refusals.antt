-- The number and values of each answer. Document 01, section "Numbers of refusal"; document 02, T-03: 50 to 53. No case of these answers is one that the papers
-- leave free.
use Rattle.std.specs.Prelude.{ℕ, Bool, if◌then◌else◌, Result, Ok, Err}
use Rattle.definitions.specs.declared.answers.Refusal.{Refusal}
use Rattle.definitions.specs.declared.answers.Refusal.TheVariants as refusal
use Rattle.definitions.specs.declared.answers.Verdict.{Verdict}
use Rattle.definitions.specs.declared.answers.Verdict.TheVariants as verdict
use Rattle.definitions.specs.declared.answers.Found.{Found}
use Rattle.definitions.specs.declared.answers.Found.TheVariants as found
use Rattle.definitions.specs.declared.answers.TextRefusal.{TextRefusal}
use Rattle.definitions.specs.declared.packets.PacketHeader.{PacketHeader}

abbrev pub number_of : Refusal → ℕ
number_of refusal.TextLength = 1
number_of refusal.TextByte = 2
number_of refusal.Opening = 3
number_of refusal.NeitherOptionNorEnd = 4
number_of refusal.NotListed = 5
number_of refusal.Form = 6
number_of refusal.Limit = 7
number_of refusal.Repeated = 8
number_of refusal.ModifierWithoutPattern = 9
number_of refusal.Unusable = 10
number_of refusal.CountExceeded = 11
number_of refusal.Missing = 12
number_of refusal.IllFormed = 20
number_of refusal.CanonicalLength = 21
number_of refusal.ShortBuffer = 22
number_of refusal.BufferLength = 30
number_of refusal.NotIpv4 = 31
number_of refusal.Lengths = 32
number_of refusal.Fragment = 33
number_of refusal.Transport = 34
number_of refusal.FieldSpan = 35
number_of refusal.EarlierCount = 36
number_of refusal.BookLength = 50
number_of refusal.RuleForm = 51
number_of refusal.RuleOrder = 52
number_of refusal.RuleCount = 53

-- ---- A success has number and place 0

-- what is due: its number, of a packet's fields too
abbrev pub check_number : Result Unit Refusal → ℕ
check_number (Ok tt) = 0
check_number (Err r) = number_of r

-- reading: number and place
abbrev pub read_number : Result Unit TextRefusal → ℕ
read_number (Ok tt) = 0
read_number (Err e) = number_of e.refusal

abbrev pub read_place : Result Unit TextRefusal → ℕ
read_place (Ok tt) = 0
read_place (Err e) = e.place

-- writing: number, and how many bytes are written
abbrev pub write_number : Result ℕ Refusal → ℕ
write_number (Ok n) = 0
write_number (Err r) = number_of r

abbrev pub write_length : Result ℕ Refusal → ℕ
write_length (Ok n) = n
write_length (Err r) = 0

-- a packet's header fields: number
abbrev pub packet_number : Result PacketHeader Refusal → ℕ
packet_number (Ok f) = 0
packet_number (Err r) = number_of r

-- verdicts: number, and 1 for met
abbrev pub verdict_number : Result Verdict Refusal → ℕ
verdict_number (Ok verdict.Met) = 0
verdict_number (Ok verdict.NotMet) = 0
verdict_number (Err r) = number_of r

abbrev pub verdict_met : Result Verdict Refusal → ℕ
verdict_met (Ok verdict.Met) = 1
verdict_met (Ok verdict.NotMet) = 0
verdict_met (Err r) = 0

-- "first" and "next": number, and 1 for found
abbrev pub found_number : Result Found Refusal → ℕ
found_number (Ok found.Placed) = 0
found_number (Ok found.Nothing) = 0
found_number (Err r) = number_of r

abbrev pub found_one : Result Found Refusal → ℕ
found_one (Ok found.Placed) = 1
found_one (Ok found.Nothing) = 0
found_one (Err r) = 0

-- ---- the order of refusals

-- the refusal r if the test holds, else what is due then
abbrev pub refuse_if : Bool → Refusal → Result Unit Refusal → Result Unit Refusal
refuse_if b r d = if b then Err r else d

-- what is due first
abbrev pub and_then : Result Unit Refusal → Result Unit Refusal → Result Unit Refusal
and_then (Ok tt) d = d
and_then (Err r) d = Err r
