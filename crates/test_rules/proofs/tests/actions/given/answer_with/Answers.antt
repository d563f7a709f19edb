use Rattle.std.proofs.Common.{◌≡◌, ℕ, true, List}
use Rattle.std.specs.List.{All, list_all}
use Rattle.std.proofs.lemmas.List.Elements.{All-weaker}
use Rattle.std.proofs.lemmas.List.Sums.{AllPass-from_list_all}
use Rattle.flowspace.specs.declared.rules.Rule.{Rule}
use Rattle.flowspace.specs.Owners.{has_port, HasPort}
use Rattle.flowspace.proofs.Owning.{has_port-iff}
use Rattle.test_rules.proofs.tests.actions.given.answer_with.Goals as goal

own : (rules : List Rule) (slot : ℕ) (ports : List ℕ) → list_all (has_port rules slot) ports ≡ true → All (HasPort rules slot) ports
own rules slot ports e =
    All-weaker (λ port. has_port rules slot port ≡ true) (HasPort rules slot) (λ port. (has_port-iff rules slot port).0) ports (AllPass-from_list_all (has_port rules slot) ports e)

pub check-requires-clause-flood : goal.check-requires-clause-flood
check-requires-clause-flood c = own c.args.policy.now.rules c.args.slot c.args.ports.0.now (cc)

pub check-requires-clause-all : goal.check-requires-clause-all
check-requires-clause-all c = own c.args.policy.now.rules c.args.slot c.args.ports.1.now (cc)
