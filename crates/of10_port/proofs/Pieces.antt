-- Ports one after the other, and the bytes cut into ports.
use Rattle.std.proofs.Common.{◌≡◌, ℕ, zero, suc, ◌*◌, ◌/◌, ◌≤◌, List, [], ◌∷◌, ◌++◌, length, take, drop, refl, sym, ap, ap₂, ◌∙◌, arith, length-drop}
use Rattle.std.specs.List.{All}
use Rattle.std.specs.Simd.{first_chunks}
use Rattle.std.proofs.lemmas.List.{take_at, length-append, length-take-le}
use Rattle.std.proofs.lemmas.List.Concat.{flat_map-cons}
use Rattle.std.proofs.lemmas.List.Elements.{All-head, All-tail, All-nil, All-cons}
use Rattle.std.proofs.Math.Seq.{drop-append_seam}
use Rattle.of10_port.specs.Ports.{IsPort, port_bytes, ports_in}

pub length-port_bytes : (ports : List (List ℕ)) → All IsPort ports → length (port_bytes ports) ≡ 48 * length ports
length-port_bytes [] h = refl
length-port_bytes (p ∷ ports) h =
    let size = All-head IsPort p ports h in
    let others = length-port_bytes ports (All-tail IsPort p ports h) in
    ap length (flat_map-cons (λ raw. raw) p ports) ∙ length-append p (port_bytes ports) ∙ omega (arith, size, others)

-- the bytes of a port and those behind it
drop_port : (p rest : List ℕ) → IsPort p → drop 48 (p ++ rest) ≡ rest
drop_port p rest size = ap (λ (n : ℕ). drop n (p ++ rest)) (sym size) ∙ drop-append_seam p rest

chunks_again : (ports : List (List ℕ)) → All IsPort ports → first_chunks 48 (length ports) (port_bytes ports) ≡ ports
chunks_again [] h = refl
chunks_again (p ∷ ports) h =
    let size = All-head IsPort p ports h in
    let bytes = flat_map-cons (λ raw. raw) p ports in
    ap₂ (λ (x : List ℕ) (xs : List (List ℕ)). x ∷ xs)
    (ap (take 48) bytes ∙ take_at p (port_bytes ports) 48 size)
    (ap (first_chunks 48 (length ports)) (ap (drop 48) bytes ∙ drop_port p (port_bytes ports) size) ∙ chunks_again ports (All-tail IsPort p ports h))

-- the bytes of ports are cut into the same ports
pub ports_again : (ports : List (List ℕ)) → All IsPort ports → ports_in (port_bytes ports) ≡ ports
unfolding ports_in
ports_again ports h =
    let long = length-port_bytes ports h in
    let count : length (port_bytes ports) / 48 ≡ length ports = omega arith in
    ap (λ (k : ℕ). first_chunks 48 k (port_bytes ports)) count ∙ chunks_again ports h

pub chunks_are_ports : (k : ℕ) (bytes : List ℕ) → 48 * k ≤ length bytes → All IsPort (first_chunks 48 k bytes)
chunks_are_ports zero bytes h = All-nil IsPort
chunks_are_ports (suc k) bytes h =
    let rest = length-drop 48 bytes in
    All-cons IsPort (take 48 bytes) (first_chunks 48 k (drop 48 bytes)) (length-take-le 48 bytes (omega arith)) (chunks_are_ports k (drop 48 bytes) (omega arith))

-- what is cut is ports
pub IsPort-ports_in : (bytes : List ℕ) → All IsPort (ports_in bytes)
unfolding ports_in
IsPort-ports_in bytes = chunks_are_ports (length bytes / 48) bytes (omega arith)
