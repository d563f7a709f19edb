-- Messages as they are written, one field after the other.
use Rattle.std.proofs.Common.{◌≡◌, ℕ, ◌+◌, ◌*◌, List, [], ◌∷◌, ◌++◌, length, refl, sym, ap, ◌∙◌, append_assoc, arith}
use Rattle.std.proofs.lemmas.List.{length-append}
use Rattle.byteorder.specs.Endian.{big_bytes}
use Rattle.of10_ctl.specs.Heads.{head_bytes}
use Rattle.of10_port.specs.declared.features.Features.{Features}
use Rattle.of10_port.specs.declared.status.PortStatus.{PortStatus}
use Rattle.of10_port.specs.Ports.{IsPort, port_bytes}
use Rattle.of10_port.specs.Features.{features_front, spell_features}
use Rattle.of10_port.specs.PortStatus.{spell_port_status}

-- the front has 24 bytes
pub length-front : (f : Features) → length (features_front f) ≡ 24
unfolding features_front
length-front f = refl

-- five pieces, put one after the other
five : (o p q r s t : List ℕ) → ((((o ++ p) ++ q) ++ r) ++ s) ++ t ≡ o ++ (p ++ (q ++ (r ++ (s ++ t))))
five o p q r s t =
    append_assoc (((o ++ p) ++ q) ++ r) s t ∙ append_assoc ((o ++ p) ++ q) r (s ++ t)
    ∙ append_assoc (o ++ p) q (r ++ (s ++ t)) ∙ append_assoc o p (q ++ (r ++ (s ++ t)))

pub front_written : (f : Features) (o p q r s t : List ℕ) → p ≡ o ++ big_bytes 8 f.datapath → q ≡ p ++ big_bytes 4 f.buffers → r ≡ q ++ (f.tables ∷ 0 ∷ 0 ∷ 0 ∷ [])
    → s ≡ r ++ big_bytes 4 f.capabilities → t ≡ s ++ big_bytes 4 f.actions → t ≡ o ++ features_front f
unfolding features_front
front_written f o p q r s t h1 h2 h3 h4 h5 =
    rw (h5, h4, h3, h2, h1) (five o (big_bytes 8 f.datapath) (big_bytes 4 f.buffers) (f.tables ∷ 0 ∷ 0 ∷ 0 ∷ []) (big_bytes 4 f.capabilities) (big_bytes 4 f.actions))

pub features_written : (f : Features) (xid : ℕ) → length (port_bytes f.ports) ≡ 48 * length f.ports
    → spell_features f xid ≡ (head_bytes 6 (8 + (24 + 48 * length f.ports)) xid ++ features_front f) ++ port_bytes f.ports
unfolding spell_features
features_written f xid long =
    let front = length-front f in
    let whole = length-append (features_front f) (port_bytes f.ports) in
    let same : 8 + length (features_front f ++ port_bytes f.ports) ≡ 8 + (24 + 48 * length f.ports) = omega (arith, front, long, whole) in
    ap (λ (n : ℕ). head_bytes 6 n xid ++ (features_front f ++ port_bytes f.ports)) same
    ∙ sym (append_assoc (head_bytes 6 (8 + (24 + 48 * length f.ports)) xid) (features_front f) (port_bytes f.ports))

pub status_written : (s : PortStatus) (xid : ℕ) → IsPort s.port
    → spell_port_status s xid ≡ head_bytes 12 64 xid ++ ((s.reason ∷ 0 ∷ 0 ∷ 0 ∷ 0 ∷ 0 ∷ 0 ∷ 0 ∷ []) ++ s.port)
unfolding spell_port_status
status_written s xid size =
    let same : 8 + length ((s.reason ∷ 0 ∷ 0 ∷ 0 ∷ 0 ∷ 0 ∷ 0 ∷ 0 ∷ []) ++ s.port) ≡ 64 = omega (arith, size) in
    ap (λ (n : ℕ). head_bytes 12 n xid ++ ((s.reason ∷ 0 ∷ 0 ∷ 0 ∷ 0 ∷ 0 ∷ 0 ∷ 0 ∷ []) ++ s.port)) same
