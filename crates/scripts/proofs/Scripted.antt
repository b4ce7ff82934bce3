-- Lines that are read one after the other. Assumes nothing.
use Rattle.std.proofs.Common.{◌≡◌, ℕ, ◌+◌, ◌<◌, List, [], ◌∷◌, ◌++◌, length, get_or, map, Bor, Vec, vec_items, Result, IfOk, Some, None, Ok, Err, sym, ap, subst, ◌∙◌, arith}
use Rattle.std.proofs.lemmas.List.{get_or-map, length-map}
use Rattle.runs.specs.declared.call.Call.{Call}
use Rattle.scripts.specs.declared.fault.LineFault.{LineFault}
use Rattle.scripts.specs.Words.{words}
use Rattle.scripts.specs.Lines.{Outcome, Says}
use Rattle.scripts.specs.Scripts.{Said, Stops}

abbrev pub texts : List (Bor (List ℕ)) → List (List ℕ)
texts lines = map (λ l. l.now) lines

module _ (lines : List (Bor (List ℕ))) (i : ℕ) (d : Bor (List ℕ)) (within : i < length lines) where
  there : i < length (texts lines)
  there = omega (arith, within, length-map lines (λ (l : Bor (List ℕ)). l.now))

  says : {o : Outcome} → Says (words (get_or lines i d).now) o → Says (words (get_or (texts lines) i [])) o
  says {o} s = subst (λ (l : List ℕ). Says (words l) o) (sym (get_or-map (λ (l : Bor (List ℕ)). l.now) lines i d [] within)) s

  pub blank_line : {calls : List Call} (o : Outcome) → Said (texts lines) i calls → Says (words (get_or lines i d).now) o → o ≡ Ok None → Said (texts lines) (i + 1) calls
  blank_line o before s is = Said.no_call before there (subst (Says _) is (says s))

  pub call_line : {calls : List Call} (o : Outcome) (c : Call) → Said (texts lines) i calls → Says (words (get_or lines i d).now) o → o ≡ Ok (Some c) → Said (texts lines) (i + 1) (calls ++ (c ∷ []))
  call_line o c before s is = Said.one_call c before there (subst (Says _) is (says s))

  pub bad_line : {calls : List Call} (f : LineFault) → Said (texts lines) i calls → Says (words (get_or lines i d).now) (Err f) → Stops (texts lines) calls (record { line = i + 1; fault = f })
  bad_line f before s = record { before = i; numbered = λ _. i + 1; within = there; said = before; faulty = says s }

-- lines that are collected, and lent as a slice
pub collected : {Z E : Type 0} (r : Result (Vec (Bor (List ℕ)) Z) E) (v : Vec (Bor (List ℕ)) Z) {items : List (Bor (List ℕ))} {ls : List (List ℕ)} → IfOk r (λ w. texts (vec_items w) ≡ ls) → r ≡ Ok v → items ≡ vec_items v → texts items ≡ ls
collected r v {items} {ls} all is lent = ap texts lent ∙ subst (λ r. IfOk r (λ w. texts (vec_items w) ≡ ls)) is all

-- all lines have been read
pub all_said : (lines : List (Bor (List ℕ))) {ls : List (List ℕ)} (i : ℕ) (calls : List Call) → texts lines ≡ ls → i ≡ length lines → Said (texts lines) i calls → Said ls (length ls) calls
all_said lines {ls} i calls are end said =
    let long : i ≡ length ls = end ∙ sym (length-map lines (λ (l : Bor (List ℕ)). l.now)) ∙ ap length are in
    subst (λ n. Said ls n calls) long (subst (λ l. Said l i calls) are said)
