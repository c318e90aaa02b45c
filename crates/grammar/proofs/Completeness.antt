-- The reader accepts each text of the grammar.
use Rattle.std.proofs.Common.{◌≡◌, List, [], ◌∷◌, ◌++◌, sym, refl, ap, ◌∙◌, subst, append_assoc}
use Rattle.grammar.specs.Forms.Form.{two}
use Rattle.grammar.specs.Forms.Binary.{either, implies, until}
use Rattle.grammar.specs.Words.{Word}
use Rattle.grammar.specs.Words.Word.{close, unsquare, amp, bar, arrow, u_word}
use Rattle.grammar.specs.Grammar.{Tree, Level, Is}
use Rattle.grammar.specs.Grammar.Level.{rule, or, and, unary, atom}
use Rattle.grammar.specs.Grammar.Is.{rule_or, rule_arrow, or_and, or_bar, and_unary, and_amp, unary_before, unary_atom, atom_true, atom_false, atom_name, atom_round, atom_until}
use Rattle.grammar.specs.Machine.{Stack, State, give, or_tree, or_rest, ends, closes, untils, unsquares, fresh, step, steps, final, start}
use Rattle.grammar.specs.Machine.Awaits.{a_rule, a_and, a_unary}
use Rattle.grammar.specs.Machine.Stack.{bottom, in_round, in_left, in_right, after_arrow, plain_or, after_bar, plain_and, after_amp, after_before}
use Rattle.grammar.specs.Machine.State.{need, have}
use Rattle.grammar.specs.Machine.Ending.{whole}

pub steps-append : (us vs : List Word) (st : State) → steps st (us ++ vs) ≡ steps (steps st us) vs
steps-append [] vs st = refl
steps-append (u ∷ us) vs st = steps-append us vs (step st u)

-- in this state a whole rule with the tree f has been read, and s is around it
pub record RuleRead (st : State) (f : Tree) (s : Stack a_rule) : Type 0 where
  pub on_close : step st close ≡ closes f s
  pub on_u : step st u_word ≡ untils f s
  pub on_unsquare : step st unsquare ≡ unsquares f s
  pub on_end : final st ≡ ends f s

-- the same of an `or`
pub record OrRead (st : State) (f : Tree) (s : Stack a_rule) : Type 0 where
  pub on_arrow : step st arrow ≡ fresh (after_arrow f s)
  pub on_bar : step st bar ≡ need (plain_and (after_bar f s))
  pub as_rule : RuleRead st f s

abbrev pub Complete : Level → List Word → Tree → Type 0
Complete rule ws f = (s : Stack a_rule) → RuleRead (steps (fresh s) ws) f s
Complete or ws f = (s : Stack a_rule) → OrRead (steps (fresh s) ws) f s
Complete and ws f = (s : Stack a_and) → steps (need (plain_and s)) ws ≡ have f s
Complete unary ws f = (s : Stack a_unary) → steps (need s) ws ≡ give f s
Complete atom ws f = (s : Stack a_unary) → steps (need s) ws ≡ give f s

pub have_or : (f : Tree) (s : Stack a_and) → OrRead (have f s) (or_tree f s) (or_rest s)
have_or f s = record {
  on_arrow = refl;
  on_bar = refl;
  as_rule = record { on_close = refl; on_u = refl; on_unsquare = refl; on_end = refl };
}

-- a text in two halves about a word
around : (us vs : List Word) (w : Word) (st t : State) → step (steps st us) w ≡ t → steps st (us ++ w ∷ vs) ≡ steps t vs
around us vs w st t e = steps-append us (w ∷ vs) st ∙ ap (λ x. steps x vs) e

pub complete : {l : Level} {ws : List Word} {f : Tree} → Is l ws f → Complete l ws f
complete (rule_or d) = λ s. (complete d s).as_rule
complete (rule_arrow {us = us} {vs = vs} {f = f} {g = g} d e) = λ s.
    subst (λ t. RuleRead t (two implies f g) s) (sym (around us vs arrow (fresh s) (fresh (after_arrow f s)) (complete d s).on_arrow))
    (let r = complete e (after_arrow f s) in record { on_close = r.on_close; on_u = r.on_u; on_unsquare = r.on_unsquare; on_end = r.on_end })
complete (or_and {f = f} d) = λ s. subst (λ t. OrRead t f s) (sym (complete d (plain_or s))) (have_or f (plain_or s))
complete (or_bar {us = us} {vs = vs} {f = f} {g = g} d e) = λ s.
    subst (λ t. OrRead t (two either f g) s)
    (sym (around us vs bar (fresh s) (need (plain_and (after_bar f s))) (complete d s).on_bar ∙ complete e (after_bar f s)))
    (have_or g (after_bar f s))
complete (and_unary d) = λ s. complete d (plain_and s)
complete (and_amp {us = us} {vs = vs} {f = f} {g = g} d e) = λ s.
    around us vs amp (need (plain_and s)) (need (after_amp f s)) (ap (λ t. step t amp) (complete d s)) ∙ complete e (after_amp f s)
complete (unary_before k d) = λ s. complete d (after_before k s)
complete (unary_atom d) = λ s. complete d s
complete atom_true = λ s. refl
complete atom_false = λ s. refl
complete (atom_name n) = λ s. refl
complete (atom_round {ws = ws} {f = f} d) = λ s.
    around ws [] close (fresh (in_round s)) (give f s) (complete d (in_round s)).on_close
complete (atom_until q {us = us} {vs = vs} {f = f} {g = g} d e) = λ s.
    ap (steps (fresh (in_left q s))) (append_assoc us (u_word ∷ vs) (unsquare ∷ []))
    ∙ around us (vs ++ unsquare ∷ []) u_word (fresh (in_left q s)) (fresh (in_right q f s)) (complete d (in_left q s)).on_u
    ∙ around vs [] unsquare (fresh (in_right q f s)) (give (two (until q) f g) s) (complete e (in_right q f s)).on_unsquare

pub complete_end : (ws : List Word) (f : Tree) → Is rule ws f → final (steps start ws) ≡ whole f
complete_end ws f d = (complete d bottom).on_end

pub one_tree : (ws : List Word) (f g : Tree) → Is rule ws f → Is rule ws g → f ≡ g
one_tree ws f g d e =
    let a = complete_end ws f d in
    let b = complete_end ws g e in
    cc
