-- The head of a live script, for a run under control.
use Rattle.std.specs.Prelude.{◌≤◌, ℕ, List, map}
use Rattle.lk_outside.specs.Stream.{Stream}
use Rattle.link_node.specs.Config.{gate_value}
use Rattle.link_text.specs.LiveHead.{IsHeadText}
use Rattle.link_script.specs.LiveScript.{commands_told}
use Rattle.link_text.specs.declared.live_head.LiveHead.{LiveHead}
use Rattle.link_commands.specs.Statuses.{WasRead}

-- the text of a head that was read to its end, and said this one
pub record IsHeadRead (input input' : Stream) (head : LiveHead) : Type 0 where
  pub bytes : List ℕ
  pub read : WasRead 16_777_216 input input' bytes
  pub few : commands_told bytes ≤ 4_096
  pub text : IsHeadText bytes head.mpb head.sync (map gate_value head.gates.items)
