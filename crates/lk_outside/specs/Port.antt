-- What a port's calls do to its gates, its contents and its count of faults.
use Rattle.std.specs.Prelude.{◌≡◌, ℕ, List, [], ◌∷◌, ◌++◌, Option}
use Rattle.lk_base.specs.declared.endpoint.Endpoint.{Endpoint}
use Rattle.lk_outside.specs.Arrivals.{ArrivalValue, PostValue, taken_by}
use Rattle.lk_outside.specs.Contents.{BothTell}
use Rattle.lk_outside.specs.Faults.{Rose}
use Rattle.lk_outside.specs.declared.port.Arrival.{Arrival}
use Rattle.lk_outside.specs.declared.port.Arrival.TheVariants as arrival
use Rattle.lk_outside.specs.declared.port.Bound.{Bound}
use Rattle.lk_outside.specs.declared.port.Bound.TheVariants as bound
use Rattle.lk_outside.specs.declared.port.Posted.{Posted}
use Rattle.lk_outside.specs.declared.port.Posted.TheVariants as posted

-- The arrivals left, those given, idle ones among them, and the datagrams posted, each in order
pub record PortContents : Type 0 where
  pub left : List ArrivalValue
  pub given : List ArrivalValue
  pub posted : List PostValue

-- a port's contents where it tells them, the local endpoints of its gates, and its count of failures
pub record PortSeen : Type 0 where
  pub told : Option PortContents
  pub gates : List Endpoint
  pub faults : ℕ

-- ---- bind

-- Rule: A bind that succeeds replaces the gates bound before, and a bind that fails keeps them.
abbrev pub Binds : List Endpoint → List Endpoint → List Endpoint → Bound → Type 0
Binds before after gates bound.Ready = after ≡ gates
Binds before after gates bound.Failed = after ≡ before

abbrev pub HasBindCause : ℕ → ℕ → Bound → Type 0
HasBindCause before now bound.Ready = now ≡ before
HasBindCause before now bound.Failed = Rose before now

-- ---- receive

-- Rule: A port gives its arrivals in order, each once.
pub record GivesFrom (arrivals : List ArrivalValue) (before after : PortContents) : Type 0 where
  pub left : before.left ≡ arrivals ++ after.left
  pub given : after.given ≡ before.given ++ arrivals
  pub posted : after.posted ≡ before.posted

-- nothing is left, and all stays
pub record IsAtClose (before after : PortContents) : Type 0 where
  pub none_left : before.left ≡ []
  pub stays : after ≡ before

-- where told, what the answer says of the contents, before and after
abbrev pub Receives : Option PortContents → Option PortContents → Arrival → Type 0
Receives before after (arrival.Datagram gate from bytes now) = BothTell (GivesFrom (taken_by (arrival.Datagram gate from bytes now))) before after
Receives before after (arrival.Idle now) = BothTell (GivesFrom (taken_by (arrival.Idle now))) before after
Receives before after arrival.Closed = BothTell IsAtClose before after
Receives before after arrival.Failed = after ≡ before

abbrev pub HasReceiveCause : ℕ → ℕ → Arrival → Type 0
HasReceiveCause before now (arrival.Datagram gate from bytes at) = now ≡ before
HasReceiveCause before now (arrival.Idle at) = now ≡ before
HasReceiveCause before now arrival.Closed = now ≡ before
HasReceiveCause before now arrival.Failed = Rose before now

-- ---- send

-- Rule: A datagram that a port sends is posted with its gate and destination, after those posted before.
pub record PostsOne (post : PostValue) (before after : PortContents) : Type 0 where
  pub left : after.left ≡ before.left
  pub given : after.given ≡ before.given
  pub posted : after.posted ≡ before.posted ++ post ∷ []

-- where told, the datagram was posted; one that the system refuses, alone, is posted too
abbrev pub Posts : Option PortContents → Option PortContents → PostValue → Posted → Type 0
Posts before after post posted.Sent = BothTell (PostsOne post) before after
Posts before after post posted.Dropped = BothTell (PostsOne post) before after
Posts before after post posted.Failed = after ≡ before

abbrev pub HasSendCause : ℕ → ℕ → Posted → Type 0
HasSendCause before now posted.Sent = now ≡ before
HasSendCause before now posted.Dropped = now ≡ before
HasSendCause before now posted.Failed = Rose before now
