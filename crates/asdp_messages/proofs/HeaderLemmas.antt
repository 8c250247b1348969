-- Headers, part by part.
use Rattle.std.proofs.Common.{◌≡◌, ℕ, List, [], ◌∷◌, ◌++◌, length, refl, sym, ap, ◌∙◌, append_assoc, arith}
use Rattle.byteorder.specs.Endian.{big_bytes}
use Rattle.lk_base.specs.declared.ids.NodeId.{NodeId}
use Rattle.asdp_messages.specs.declared.header.TheConstants.{DISCOVERY_PROTOCOL}
use Rattle.asdp_messages.specs.Spelling.{spelled_header_of}

-- the first eight bytes, and the others
header_parted : (kind ttl group : ℕ) (from : NodeId)
    → spelled_header_of kind ttl group from ≡ big_bytes 8 DISCOVERY_PROTOCOL ++ (kind ∷ ttl ∷ (big_bytes 2 group ++ from.0))
unfolding spelled_header_of
header_parted kind ttl group from = refl

-- what was written part by part
pub header_as_written : (before named numbered grouped after : List ℕ) (kind ttl group : ℕ) (from : NodeId)
    → named ≡ before ++ big_bytes 8 DISCOVERY_PROTOCOL → numbered ≡ named ++ kind ∷ ttl ∷ []
    → grouped ≡ numbered ++ big_bytes 2 group → after ≡ grouped ++ from.0
    → after ≡ before ++ spelled_header_of kind ttl group from
header_as_written before named numbered grouped after kind ttl group from e f g h =
    h ∙ ap (λ (bs : List ℕ). bs ++ from.0) (g ∙ ap (λ (bs : List ℕ). bs ++ big_bytes 2 group) (f ∙ ap (λ (bs : List ℕ). bs ++ kind ∷ ttl ∷ []) e))
    ∙ append_assoc (before ++ big_bytes 8 DISCOVERY_PROTOCOL ++ kind ∷ ttl ∷ []) (big_bytes 2 group) from.0
    ∙ append_assoc (before ++ big_bytes 8 DISCOVERY_PROTOCOL) (kind ∷ ttl ∷ []) (big_bytes 2 group ++ from.0)
    ∙ append_assoc before (big_bytes 8 DISCOVERY_PROTOCOL) (kind ∷ ttl ∷ (big_bytes 2 group ++ from.0))
    ∙ ap (λ (bs : List ℕ). before ++ bs) (sym (header_parted kind ttl group from))

pub length-header : (kind ttl group : ℕ) (from : NodeId) → length from.0 ≡ 8 → length (spelled_header_of kind ttl group from) ≡ 20
unfolding spelled_header_of
length-header kind ttl group from len = omega (arith, len)
