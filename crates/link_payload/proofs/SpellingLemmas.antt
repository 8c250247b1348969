-- What is spelled, by its length.
use Rattle.std.proofs.Common.{◌≡◌, length, refl}
use Rattle.lk_base.specs.declared.endpoint.Endpoint.{Endpoint}
use Rattle.lk_base.specs.declared.start.SessionStart.{SessionStart}
use Rattle.lk_base.specs.declared.timeline.Timeline.{Timeline}
use Rattle.link_payload.specs.Entries.{spelled_number_of}
use Rattle.link_payload.specs.Spelling.{spelled_timeline_of, spelled_start_of, spelled_endpoint_of}

pub length-timeline : (t : Timeline) → length (spelled_timeline_of t) ≡ 24
unfolding spelled_timeline_of spelled_number_of
length-timeline t = refl

pub length-start : (s : SessionStart) → length (spelled_start_of s) ≡ 17
unfolding spelled_start_of spelled_number_of
length-start s = refl

pub length-endpoint : (e : Endpoint) → length (spelled_endpoint_of e) ≡ 6
unfolding spelled_endpoint_of
length-endpoint e = refl

pub ruleset lengths = (length-timeline, length-start, length-endpoint)
