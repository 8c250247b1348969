-- What the parts of a link stand for before they are one.
use Rattle.std.specs.Prelude.{ℕ, ℤ}
use Rattle.atomic_table.specs.Seated.{TableId}
use Rattle.link_node.specs.Config.{ConfigValue}

-- The node's config, the moment at which it was opened, and how many events the journal takes; and which cells, queue and ledger they are
pub record PartsView : Type 0 where
  pub config : ConfigValue
  pub opened_at : ℤ
  pub most : ℕ
  pub app_states : TableId
  pub audio_states : TableId
  pub audio_commits : TableId
  pub queue : TableId
  pub ledger : ℕ
  pub shares : ℕ
