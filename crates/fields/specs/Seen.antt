-- What a verdict sees of a packet, by what the code is handed. Document 01, section "Meaning".
use Rattle.std.specs.Prelude.{ℕ, List}
use Rattle.definitions.specs.declared.packets.PacketHeader.{PacketHeader}
use Rattle.definitions.specs.declared.packets.FieldMap.{FieldMap}
use Rattle.definitions.specs.Fields as fields

abbrev pub seen : PacketHeader → List ℕ → List ℕ → FieldMap → fields.View
seen f payload decoded m = record { header = f; present = fields.present m; field = fields.field_of payload decoded m }
