-- Actions and the one spelling of each list of them (OpenFlow 1.0.0, section 5.2.4).
use Rattle.std.specs.Prelude.{ℕ, ◌<◌, ◌^◌, ◌==◌, ◌||◌, if◌then◌else◌, List, [], ◌∷◌, ◌++◌}
use Rattle.std.specs.List.{flat_map}
use Rattle.byteorder.specs.Endian.{big_bytes}
use Rattle.of10_model.specs.Padding.{AlikeBut}
use Rattle.of10_action.specs.declared.action.Action.{Action}
use Rattle.of10_action.specs.declared.action.Action.TheVariants.{Output, SetVlanVid, SetVlanPcp, StripVlan, SetDlSrc, SetDlDst, SetNwSrc, SetNwDst, SetNwTos, SetTpSrc, SetTpDst, Enqueue}

-- each field lies in the range of its place in the message: a hardware address is below 2^48
abbrev pub IsAction : Action → Type 0
IsAction (Output port max_len) = (port < 2 ^ 16) × (max_len < 2 ^ 16)
IsAction (SetVlanVid vlan) = vlan < 2 ^ 16
IsAction (SetVlanPcp priority) = priority < 256
IsAction StripVlan = Unit {0}
IsAction (SetDlSrc address) = address < 2 ^ 48
IsAction (SetDlDst address) = address < 2 ^ 48
IsAction (SetNwSrc address) = address < 2 ^ 32
IsAction (SetNwDst address) = address < 2 ^ 32
IsAction (SetNwTos service) = service < 256
IsAction (SetTpSrc port) = port < 2 ^ 16
IsAction (SetTpDst port) = port < 2 ^ 16
IsAction (Enqueue port queue) = (port < 2 ^ 16) × (queue < 2 ^ 32)

-- a hardware address that an action sets is below 2^48
abbrev pub HasAddress : Action → Type 0
HasAddress (SetDlSrc address) = address < 2 ^ 48
HasAddress (SetDlDst address) = address < 2 ^ 48
HasAddress _ = Unit {0}

-- the number of each kind of action
abbrev pub kind_of : Action → ℕ
kind_of (Output port max_len) = 0
kind_of (SetVlanVid vlan) = 1
kind_of (SetVlanPcp priority) = 2
kind_of StripVlan = 3
kind_of (SetDlSrc address) = 4
kind_of (SetDlDst address) = 5
kind_of (SetNwSrc address) = 6
kind_of (SetNwDst address) = 7
kind_of (SetNwTos service) = 8
kind_of (SetTpSrc port) = 9
kind_of (SetTpDst port) = 10
kind_of (Enqueue port queue) = 11

-- the hardware addresses and the queue take 16 bytes, all other actions 8
abbrev pub size_of : ℕ → ℕ
size_of kind = if kind == 4 || kind == 5 || kind == 11 then 16 else 8

-- that many zero bytes
abbrev pub padding : ℕ → List ℕ
padding n = big_bytes n 0

-- the fields behind kind and length
abbrev pub body_of : Action → List ℕ
body_of (Output port max_len) = big_bytes 2 port ++ big_bytes 2 max_len
body_of (SetVlanVid vlan) = big_bytes 2 vlan ++ padding 2
body_of (SetVlanPcp priority) = (priority ∷ []) ++ padding 3
body_of StripVlan = padding 4
body_of (SetDlSrc address) = big_bytes 6 address ++ padding 6
body_of (SetDlDst address) = big_bytes 6 address ++ padding 6
body_of (SetNwSrc address) = big_bytes 4 address
body_of (SetNwDst address) = big_bytes 4 address
body_of (SetNwTos service) = (service ∷ []) ++ padding 3
body_of (SetTpSrc port) = big_bytes 2 port ++ padding 2
body_of (SetTpDst port) = big_bytes 2 port ++ padding 2
body_of (Enqueue port queue) = big_bytes 2 port ++ padding 6 ++ big_bytes 4 queue

-- where the padding of an action stands, from one of its bytes up to another; none where the two are one
abbrev pub padding_of : Action → ℕ × ℕ
padding_of (Output port max_len) = (8, 8)
padding_of (SetVlanVid vlan) = (6, 8)
padding_of (SetVlanPcp priority) = (5, 8)
padding_of StripVlan = (4, 8)
padding_of (SetDlSrc address) = (10, 16)
padding_of (SetDlDst address) = (10, 16)
padding_of (SetNwSrc address) = (8, 8)
padding_of (SetNwDst address) = (8, 8)
padding_of (SetNwTos service) = (5, 8)
padding_of (SetTpSrc port) = (6, 8)
padding_of (SetTpDst port) = (6, 8)
padding_of (Enqueue port queue) = (6, 12)

-- bytes that differ only in the padding of an action that begins them
abbrev pub AlikeButPadding : Action → List ℕ → List ℕ → Type 0
AlikeButPadding action a b = AlikeBut (padding_of action).0 (padding_of action).1 a b

-- an action is its kind, its length and its fields, padding zero
abbrev pub spell : Action → List ℕ
spell action = big_bytes 2 (kind_of action) ++ big_bytes 2 (size_of (kind_of action)) ++ body_of action

-- a list of actions is spelled one after the other
abbrev pub spelling : List Action → List ℕ
spelling actions = flat_map spell actions
