use Rattle.std.proofs.Common.{◌≡◌, ℕ, ◌≤◌, List, Option, Result, Some, Ok, Err, MatchResult, subst, sym, ◌∙◌, arith, rules}
use Rattle.grammar.specs.Scanning.{from}
use Rattle.words.specs.Wording.{Begins, Looked}
use Rattle.words.specs.declared.faults.WordFault.{WordFault}
use Rattle.words.specs.declared.word.Seen.{Seen}
use Rattle.words.proofs.Spaces.{position_cut, skipped, only_spaces}
use Rattle.words.proofs.words.looking.word_at.Goals as goal

-- a word or a fault after spaces
looked : (text : List ℕ) (p at : ℕ) (r : Result Seen WordFault) (o : Result (Option Seen) WordFault) → from text p ≡ from text at → p ≤ at → Begins text at r → MatchResult r (λ x. o ≡ Ok (Some x)) (λ e. o ≡ Err e) → Looked text p o
looked text p at (Ok x) o e h b q = subst (Looked text p) (sym q) (e ∙ b.0, omega (arith, b.1), b.2, b.3)
looked text p at (Err x) o e h b q = subst (Looked text p) (sym q) (e ∙ b)

pub returns-in_default : goal.returns-in_default
returns-in_default c = only_spaces _ _ (omega arith) (position_cut c.args.text.now c.args.place _ c.spaces.ensures ∙ search rules)

pub word-requires : goal.word-requires
word-requires c = (skipped _ _ _ (position_cut c.args.text.now c.args.place _ c.spaces.ensures ∙ c.in-Some.is)).stops

pub returns : goal.returns
returns c = looked _ _ _ _ _ (skipped _ _ _ (position_cut c.args.text.now c.args.place _ c.spaces.ensures ∙ c.in-Some.is)).words (omega arith) c.word.ensures (search rules)
