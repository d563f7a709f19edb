use Rattle.std.proofs.Common.{List, ℕ, length, sym, ap, subst, ◌∙◌, ◌≡◌, ◌∷◌, refl, arith}
use Rattle.of10_ctl.specs.Frames.{IsFrame}
use Rattle.desk_words.specs.declared.event.Event.TheVariants.{SwitchMsg}
use Rattle.desk_words.specs.Recorded.{bytes_carried, told_by, timed_at}
use Rattle.trace_audit.specs.Sessions.{session_of}
use Rattle.trace_audit.specs.Standing.{bytes_at, SessionStands}
use Rattle.trace_audit.proofs.Frames.{carried_frame}
use Rattle.trace_audit.proofs.Taking.{up_takes, bytes_takes, down_takes}
use Rattle.trace_audit.proofs.switch.Switch.take.Goals as goal

pub frame_of-requires : goal.frame_of-requires
frame_of-requires c =
    subst IsFrame (sym c.carried.ensures) (carried_frame (length c.args.policy.now.slices) c.args.file.now c.args.item.now (λ k. omega (arith, c.type_inv.file k)) c.requires.read (rw c.in-1.is refl))

pub frame_of-requires-in-6 : goal.frame_of-requires-in-6
frame_of-requires-in-6 c =
    subst IsFrame (sym c.carried-in-6.ensures) (carried_frame (length c.args.policy.now.slices) c.args.file.now c.args.item.now (λ k. omega (arith, c.type_inv.file k)) c.requires.read (rw c.in-6.is refl))

pub returns-in-0 : goal.returns-in-0
returns-in-0 c = λ before stands.
    up_takes c.args.policy.now c.args.file.now (told_by c.args.item.now (bytes_carried c.args.file.now c.args.item.now)) before (record { session = c.connected.result; rules = c.args.self.now.rules }) c.in-0.is (c.connected.ensures c.args.file.now c.args.item.now.moment)
    stands.rules_kept

pub returns-in_ok-hear-in-1 : goal.returns-in_ok-hear-in-1
returns-in_ok-hear-in-1 c = λ before stands.
    let file = c.args.file.now in
    let item = c.args.item.now in
    let bytes : List ℕ = bytes_carried file item in
    let frame = c.in_ok-frame-in-1.frame in
    let is : frame ≡ bytes = c.in_ok-frame-in-1.ensures ∙ c.carried.ensures in
    let here : bytes_at file c.args.at ≡ frame = ap (bytes_carried file) (sym c.requires.item.0) ∙ sym is in
    let heard = c.in_ok-hear-in-1.ensures file (session_of item.switch before) item.moment here c.requires.item.1 stands.session in
    bytes_takes c.args.policy.now file (told_by item bytes) before (record { session = c.hear.new.self; rules = c.args.self.now.rules }) c.in-1.is
    (subst (λ (b : List ℕ). SessionStands file (timed_at item.moment (SwitchMsg b) ∷ session_of item.switch before) c.hear.new.self) is heard) stands.rules_kept

pub returns-in_default : goal.returns-in_default
returns-in_default c = λ before stands.
    down_takes c.args.policy.now c.args.file.now (told_by c.args.item.now (bytes_carried c.args.file.now c.args.item.now)) before (record { session = c.disconnect.new.self; rules = c.args.self.now.rules }) (λ e. omega (arith, e)) (λ e. omega (arith, e)) (λ e. omega (arith, e))
    (c.disconnect.ensures c.args.file.now (session_of c.args.item.now.switch before) c.args.item.now.moment stands.session) stands.rules_kept
