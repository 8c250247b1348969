use Rattle.link_shared.proofs.SettleLemmas.{were_published}
use Rattle.link_shared.proofs.keeper.Keeper.settle.Goals as goal

pub returns-clause-app : goal.returns-clause-app
returns-clause-app g c =
    let shown = c.args.self.shown in
    were_published _ _ _ c.rows_are_read_back.ensures.state shown.app_rows shown.tidy shown.peers_fit shown.sessions_fit c.settle.ensures.lawful.seen_were_made

pub returns-clause-audio : goal.returns-clause-audio
returns-clause-audio g c =
    let shown = c.args.self.shown in
    were_published _ _ _ c.rows_are_read_back.ensures.state shown.audio_rows shown.tidy shown.peers_fit shown.sessions_fit c.settle-2.ensures.lawful.seen_were_made
