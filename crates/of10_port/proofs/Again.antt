-- What is spelled is a message of its type, and is read again.
use Rattle.std.proofs.Common.{◌≡◌, ℕ, ◌-◌, ◌+◌, ◌*◌, ◌%◌, ◌≤◌, ltb, true, false, List, [], ◌∷◌, ◌++◌, length, drop, slice_index, Ok, refl, arith}
use Rattle.std.proofs.lemmas.Bool.{le-ltb}
use Rattle.std.proofs.lemmas.List.{length-append}
use Rattle.byteorder.specs.Numbers.{big_number-reads_back}
use Rattle.of10_model.specs.Normal.{number_at}
use Rattle.of10_action.specs.Actions.{padding}
use Rattle.of10_ctl.specs.declared.kind.TheConstants.{FEATURES_REPLY, PORT_STATUS}
use Rattle.of10_ctl.specs.Kinds.{IsOf}
use Rattle.of10_ctl.proofs.Reading.{IsOf-message, length-message}
use Rattle.of10_port.specs.declared.features.Features.{Features}
use Rattle.of10_port.specs.declared.status.PortStatus.{PortStatus}
use Rattle.of10_port.specs.Ports.{IsPort, port_bytes, ports_in}
use Rattle.of10_port.specs.Features.{IsFeatures, features_front, spell_features, has_whole_ports, read_features}
use Rattle.of10_port.specs.PortStatus.{IsPortStatus, spell_port_status, read_port_status}
use Rattle.of10_port.proofs.Pieces.{length-port_bytes, ports_again}
use Rattle.of10_port.proofs.Written.{length-front}

-- ---- features

length-body : (f : Features) → length (port_bytes f.ports) ≡ 48 * length f.ports → length (features_front f ++ port_bytes f.ports) ≡ 24 + 48 * length f.ports
length-body f long =
    let front = length-front f in
    let whole = length-append (features_front f) (port_bytes f.ports) in
    omega (arith, front, whole, long)

pub IsOf-features : (f : Features) (xid : ℕ) → length (port_bytes f.ports) ≡ 48 * length f.ports → length f.ports ≤ 1364 → IsOf FEATURES_REPLY (spell_features f xid)
unfolding spell_features
IsOf-features f xid long few =
    IsOf-message 6 xid (features_front f ++ port_bytes f.ports) (omega (arith, length-body f long))

length-features : (f : Features) (xid : ℕ) → length (port_bytes f.ports) ≡ 48 * length f.ports → length (spell_features f xid) ≡ 32 + 48 * length f.ports
unfolding spell_features
length-features f xid long =
    omega (arith, length-body f long, length-message 6 xid (features_front f ++ port_bytes f.ports))

whole_ports : (bytes : List ℕ) (k : ℕ) → length bytes ≡ 32 + 48 * k → has_whole_ports bytes ≡ true
whole_ports bytes k e =
    let long : ltb (length bytes) 32 ≡ false = le-ltb (length bytes) 32 (omega arith) in
    let whole : (length bytes - 32) % 48 ≡ 0 = omega arith in
    rw (long, whole) refl

pub features_from : (bytes : List ℕ) (f : Features) → has_whole_ports bytes ≡ true → number_at bytes 8 8 ≡ f.datapath → number_at bytes 16 4 ≡ f.buffers → slice_index bytes 20 ≡ f.tables
    → number_at bytes 24 4 ≡ f.capabilities → number_at bytes 28 4 ≡ f.actions → ports_in (drop 32 bytes) ≡ f.ports → read_features bytes ≡ Ok f
unfolding read_features
features_from bytes f whole datapath buffers tables capabilities actions ports = rw (whole, datapath, buffers, tables, capabilities, actions, ports) refl

pub features_again : (f : Features) (xid : ℕ) → IsFeatures f → read_features (spell_features f xid) ≡ Ok f
unfolding spell_features features_front
features_again f xid h =
    let long = length-port_bytes f.ports h.ports in
    features_from (spell_features f xid) f
    (whole_ports (spell_features f xid) (length f.ports) (length-features f xid long))
    (big_number-reads_back 8 f.datapath [] h.datapath)
    (big_number-reads_back 4 f.buffers [] h.buffers)
    refl
    (big_number-reads_back 4 f.capabilities [] h.capabilities)
    (big_number-reads_back 4 f.actions [] h.actions)
    (ports_again f.ports h.ports)

-- ---- changes of ports

pub IsOf-port_status : (s : PortStatus) (xid : ℕ) → IsPort s.port → IsOf PORT_STATUS (spell_port_status s xid)
unfolding spell_port_status
IsOf-port_status s xid size =
    IsOf-message 12 xid ((s.reason ∷ []) ++ padding 7 ++ s.port) (omega arith)

status_from : (bytes : List ℕ) (s : PortStatus) → length bytes ≡ 64 → slice_index bytes 8 ≡ s.reason → drop 16 bytes ≡ s.port → read_port_status bytes ≡ Ok s
unfolding read_port_status
status_from bytes s size reason port = rw (size, reason, port) refl

pub port_status_again : (s : PortStatus) (xid : ℕ) → IsPortStatus s → read_port_status (spell_port_status s xid) ≡ Ok s
unfolding spell_port_status
port_status_again s xid h =
    let size = h.port in
    status_from (spell_port_status s xid) s (omega arith) refl refl
