-- The error that answers each fault (OpenFlow 1.0.0, section 5.4.4).
use Rattle.std.specs.Prelude.{ℕ}
use Rattle.of10_action.specs.declared.fault.WireFault.{WireFault}
use Rattle.of10_action.specs.declared.fault.WireFault.TheVariants.{Length, StatKind, StatVendor, ActionKind, ActionLength, ActionVendor}

-- class 1 is a bad request and class 2 a bad action; the code says what is wrong with it
abbrev pub class_and_code : WireFault → ℕ × ℕ
class_and_code (Length found) = (1, 6)
class_and_code (StatKind found) = (1, 2)
class_and_code StatVendor = (1, 3)
class_and_code (ActionKind found) = (2, 0)
class_and_code (ActionLength found) = (2, 1)
class_and_code ActionVendor = (2, 2)
