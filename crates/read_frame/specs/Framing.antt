-- What stands around the options of a text, by what the definition reads.
use Rattle.std.specs.Prelude.{ℕ, ◌≤◌, Bool, List, [], ◌≡◌, length, take, drop, Result, Ok, Err}
use Rattle.definitions.specs.declared.answers.Reading.{Reading}
use Rattle.definitions.specs.declared.answers.Refusal.TheVariants as refusal
use Rattle.definitions.specs.Limits.{document_limits}
use Rattle.definitions.specs.Lists.{same_bytes}
use Rattle.definitions.specs.Options.{opening}
use Rattle.definitions.specs.Reading.{at_letter, options, finished, refused_reading, read}
use Rattle.scan_cursors.specs.declared.Cursor.{Cursor}
use Rattle.scan_cursors.specs.declared.Cursor.TheVariants.{Parsed, OutOfRange, Failed}
use Rattle.definitions.specs.declared.answers.TextRefusal.{TextRefusal}

abbrev pub is_opened : List ℕ → Bool
is_opened s = same_bytes (take (length opening) s) opening

-- what the definition makes of the options of a text, from the end of `F-SBID(` on
abbrev pub options_read : List ℕ → Reading
options_read s = finished document_limits.room s (options at_letter s (drop (length opening) s) 0 (length opening) [])

-- a refusal is the definition's; after an opened front it reads the options, and the text is no longer than it may be
abbrev pub Fronts : List ℕ → Result Unit TextRefusal → Type 0
Fronts s (Err e) = read document_limits s ≡ refused_reading document_limits.room e.refusal e.place
Fronts s (Ok tt) = (read document_limits s ≡ options_read s) × (length opening ≤ length s) × (length s ≤ document_limits.text)

abbrev pub ended_by : Cursor → Result ℕ TextRefusal
ended_by (Parsed n) = Ok n
ended_by (OutOfRange p n) = Err (record { refusal = refusal.Limit; place = p })
ended_by (Failed p) = Err (record { refusal = refusal.Form; place = p })
