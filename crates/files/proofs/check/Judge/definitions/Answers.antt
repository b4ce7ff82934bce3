use Rattle.std.proofs.Common.{◌≡◌, ◌-◌, ◌≤◌, length, Option, Some, None, Ok, Err, MatchOption, refl, subst, ◌∙◌, arith, rules}
use Rattle.std.proofs.iter.Yields.{nat_range_steps}
use Rattle.std.proofs.lemmas.Option.{MatchOption-at_none, MatchOption-at_some}
use Rattle.std.proofs.lemmas.Fn.{serves_by, chained_keeps}
use Rattle.orc.specs.Expressions.{Definition}
use Rattle.formats.specs.declared.fault.Fault.{Fault}
use Rattle.files.specs.Judgement.{definition_end, DefinitionOutcome}
use Rattle.files.specs.Progress.{EndsIn}
use Rattle.files.proofs.Numbers.{range_left}
use Rattle.files.proofs.Filewise.{starts, passed_one_more, at_definition, all_passed}
use Rattle.files.proofs.check.Judge.definitions.Goals as goal

-- in either case
by_option : {A G P : Type 0} {Q : A → Type 0} (o : Option A) → MatchOption o P Q → (o ≡ None → P → G) → ((x : A) → o ≡ Some x → Q x → G) → G
by_option None holds none some = none refl holds
by_option (Some x) holds none some = some x refl holds

pub try_fold-requires-clause-callable : goal.try_fold-requires-clause-callable
try_fold-requires-clause-callable g c =
    serves_by _ (λ xs q. (q.0.0 ≡ c.args.self) × (q.1 ≤ length c.args.self.now.bytes.now)) (λ xs q x v kept turn. search rules)
    nat_range_steps _ _ _ (refl, c.requires) (λ xs t q x u y e kept. search rules)

pub returns : goal.returns
returns g c =
    let ran = c.try_fold.ensures.ran in
    let judge = c.args.self.now in
    let m = g.H.Host.meaning judge.host.now in
    let passed = chained_keeps _ (λ xs q. (q.0.0 ≡ c.args.self) × (q.1 ≤ length judge.bytes.now) × (length xs ≤ judge.count → EndsIn m judge.count judge.bytes.now (judge.count - length xs) q.1))
    (λ xs q x v kept turn.
    let same : v.0.0 ≡ q.0.0 = search rules in
    let end : (v.1 ≡ definition_end q.0.0.now.bytes.now q.1) × (v.1 ≤ length q.0.0.now.bytes.now) = search rules in
    let good : (d : Definition) × DefinitionOutcome (g.H.Host.meaning q.0.0.now.host.now) q.0.0.now.count q.0.0.now.bytes.now q.1 (Ok d) = search rules in
    let there = subst (λ judge. (v.1 ≡ definition_end judge.now.bytes.now q.1) × (v.1 ≤ length judge.now.bytes.now)) kept.0 end in (
      same ∙ kept.0,
      there.1,
      passed_one_more m judge.count judge.bytes.now xs x kept.2
          (subst (λ judge. (d : Definition) × DefinitionOutcome (g.H.Host.meaning judge.now.host.now) judge.now.count judge.now.bytes.now q.1 (Ok d)) kept.0 good) there.0,
    ))
    ran.0 _ (ran.2, ran.3) (refl, c.requires, λ _. starts _ _ _ (omega arith)) ran.5 in
    let left = range_left ran.0 _ ran.4.0 ran.4.1 (omega arith) in
    by_option ran.1 ran.6
    (λ none ended.
    let all = MatchOption-at_none _ _ none ran.4.2.1 in
    let is : c.try_fold.result ≡ Ok ran.3 = search rules in
    rw is (all_passed m judge.count judge.bytes.now (length ran.0) (passed.2 (omega (arith, left.0, left.1, left.2))) (omega (arith, left.0, left.1, all.0))))
    (λ x some broke.
    let more = MatchOption-at_some _ _ x some ran.4.2.1 in
    let bad : (f : Fault) × (c.try_fold.result ≡ Err f) × DefinitionOutcome (g.H.Host.meaning ran.2.0.now.host.now) ran.2.0.now.count ran.2.0.now.bytes.now ran.3 (Err f) = search rules in
    rw bad.1
    (at_definition m judge.count judge.bytes.now (length ran.0) (passed.2 (omega (arith, left.0, left.1, left.2))) (omega (arith, left.0, left.1, more.0))
    (subst (λ judge. DefinitionOutcome (g.H.Host.meaning judge.now.host.now) judge.now.count judge.now.bytes.now ran.3 (Err bad.0)) passed.0 bad.2)))
