use Rattle.std.proofs.Common.{◌≡◌, ◌≤◌, ◌<◌, ◌∙◌, List, ap, sym, subst, arith, length, get_or, set}
use Rattle.fv_base.specs.declared.counts.Count.{Count}
use Rattle.fv_base.specs.Counts.{faults_at, has_count, one_more, count_place}
use Rattle.fv_base.specs.Told.{Rose}
use Rattle.fv_base.proofs.Raised.{counted, faults_at-raised, faults_at-set, faults_at-place, faults_at-none, faults_at-elsewhere, faults_at-others, faults_at-own, has_count-raised, placed, raised_in, raised-there, raised-elsewhere}
use Rattle.fv_base.proofs.counts.Counts.raise.Goals as goal

pub returns-then-at-len-clause-rose : goal.returns-then-at-len-clause-rose
returns-then-at-len-clause-rose c =
    let entries = c.args.self.now.declared.items in
    let name = c.args.name.now in
    let k = c.args.self.now.elsewhere in
    let other = c.index_mut-count.result.now in
    let count = c.one_more-count.result in
    let at : c.place-at.result ≡ count_place entries name = c.place-at.ensures ∙ ap (λ e. count_place e name) c.deref.ensures.value in
    let there : count_place entries name < length entries = omega arith in
    let same = placed entries other count name c.place-at.result at c.index_mut-count.ensures.value in
    let old : other ≡ get_or entries (count_place entries name) other = c.index_mut-count.ensures.value ∙ ap (λ q. get_or entries q other) at in
    let HasRisen : Count → Type 0 = λ x. Rose x.faults count in
    let Risen : List Count → Type 0 = λ next. Rose (faults_at k entries name) (faults_at k next name) in
    subst Risen (sym same) (rw (faults_at-place k entries other name there, faults_at-set k entries other count name there) (subst HasRisen old c.one_more-count.ensures.rose))

pub returns-then-at-len-clause-count : goal.returns-then-at-len-clause-count
returns-then-at-len-clause-count c at =
    let entries = c.args.self.now.declared.items in
    let k = c.args.self.now.elsewhere in
    let other = c.index_mut-count.result.now in
    let count = c.one_more-count.result in
    let p = c.place-at.result in
    let same : other ≡ get_or entries p other = c.index_mut-count.ensures.value in
    let AtMost : Count → Type 0 = λ x. x.faults ≤ count in
    let later : (get_or entries p other).faults ≤ count = subst AtMost same c.one_more-count.ensures.later in
    let More : Count → Type 0 = λ x. faults_at k entries at ≤ faults_at k (set entries p (counted x count)) at in
    subst More (sym same) (faults_at-raised k entries p other count at later)

pub returns-then-at-len-clause-exact : goal.returns-then-at-len-clause-exact
returns-then-at-len-clause-exact c at =
    let entries = c.args.self.now.declared.items in
    let name = c.args.name.now in
    let k = c.args.self.now.elsewhere in
    let other = c.index_mut-count.result.now in
    let count = c.one_more-count.result in
    let place : c.place-at.result ≡ count_place entries name = c.place-at.ensures ∙ ap (λ e. count_place e name) c.deref.ensures.value in
    let there : count_place entries name < length entries = omega arith in
    let same = placed entries other count name c.place-at.result place c.index_mut-count.ensures.value in
    let old : other ≡ get_or entries (count_place entries name) other = c.index_mut-count.ensures.value ∙ ap (λ q. get_or entries q other) place in
    let Exact : List Count → Type 0 = λ next. faults_at k next at ≡ raised_in k entries name at in
    subst Exact (sym same) (raised-there k entries other count name at there (c.one_more-count.ensures.value ∙ ap (λ x. one_more x.faults) old))

pub returns-then-at-len-clause-own : goal.returns-then-at-len-clause-own
returns-then-at-len-clause-own c at apart declared =
    let entries = c.args.self.now.declared.items in
    let name = c.args.name.now in
    let k = c.args.self.now.elsewhere in
    let other = c.index_mut-count.result.now in
    let count = c.one_more-count.result in
    let place : c.place-at.result ≡ count_place entries name = c.place-at.ensures ∙ ap (λ e. count_place e name) c.deref.ensures.value in
    let same = placed entries other count name c.place-at.result place c.index_mut-count.ensures.value in
    let Own : List Count → Type 0 = λ next. faults_at k next at ≡ faults_at k entries at in
    subst Own (sym same) (faults_at-others k entries other count name at apart)

pub returns-then-at-len-clause-declared : goal.returns-then-at-len-clause-declared
returns-then-at-len-clause-declared c at =
    let entries = c.args.self.now.declared.items in
    let other = c.index_mut-count.result.now in
    let count = c.one_more-count.result in
    let p = c.place-at.result in
    let Same : Count → Type 0 = λ x. has_count (set entries p (counted x count)) at ≡ has_count entries at in
    subst Same (sym c.index_mut-count.ensures.value) (has_count-raised entries p other count at)

pub returns-else-at-len-clause-rose : goal.returns-else-at-len-clause-rose
returns-else-at-len-clause-rose c =
    let entries = c.args.self.now.declared.items in
    let name = c.args.name.now in
    let place : c.place-at.result ≡ count_place entries name = c.place-at.ensures ∙ ap (λ e. count_place e name) c.deref.ensures.value in
    let none : length entries ≤ count_place entries name = omega arith in
    rw (faults_at-none c.args.self.now.elsewhere entries name none, faults_at-none c.one_more-self.result entries name none) c.one_more-self.ensures.rose

pub returns-else-at-len-clause-count : goal.returns-else-at-len-clause-count
returns-else-at-len-clause-count c at =
    faults_at-elsewhere c.args.self.now.elsewhere c.one_more-self.result c.args.self.now.declared.items at c.one_more-self.ensures.later

pub returns-else-at-len-clause-exact : goal.returns-else-at-len-clause-exact
returns-else-at-len-clause-exact c at =
    let entries = c.args.self.now.declared.items in
    let name = c.args.name.now in
    let place : c.place-at.result ≡ count_place entries name = c.place-at.ensures ∙ ap (λ e. count_place e name) c.deref.ensures.value in
    let none : length entries ≤ count_place entries name = omega arith in
    rw c.one_more-self.ensures.value (raised-elsewhere c.args.self.now.elsewhere entries name at none)

pub returns-else-at-len-clause-own : goal.returns-else-at-len-clause-own
returns-else-at-len-clause-own c at apart declared =
    faults_at-own c.args.self.now.elsewhere c.one_more-self.result c.args.self.now.declared.items at declared
