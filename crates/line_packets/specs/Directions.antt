-- WHERE A PACKET COMES FROM: `client` or `server`.
use Rattle.std.specs.Prelude.{ℕ, Bool, ◌||◌, List, if◌then◌else◌, Option, Some, None}
use Rattle.forms.specs.Bytes.{text}
use Rattle.definitions.specs.declared.packets.Direction.{Direction}
use Rattle.definitions.specs.declared.packets.Direction.TheVariants.{Client, Server}
use Rattle.definitions.specs.Lists.{same_bytes}

unfoldable pub is_direction : List ℕ → Bool
is_direction l = same_bytes l (text "client") || same_bytes l (text "server")

unfoldable pub direction_of : List ℕ → Direction
direction_of l = if same_bytes l (text "client") then Client else Server

-- the code's answer
unfoldable pub parsed_direction : List ℕ → Option Direction
parsed_direction l = if is_direction l then Some (direction_of l) else None
