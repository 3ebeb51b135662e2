-- Where the items' pattern bytes stand, as the code goes about it.
use Rattle.std.specs.Prelude.{ℕ, ◌+◌, ◌-◌}
use Rattle.definitions.specs.Items.{Kind, unused, addressed, patterned, plain_test}
use Rattle.write_bytes.specs.Clipped.{at_most}

-- the place of the pattern bytes after those of an item, whose own stand at a place of so many bytes
abbrev pub place_after : Kind → ℕ → ℕ → ℕ
place_after unused from len = from
place_after (addressed a) from len = from
place_after (patterned p) from len = from + at_most p.len (len - from)
place_after plain_test from len = from
