-- The reader goes on exactly while a text of the grammar does.
use Rattle.std.proofs.Common.{◌≡◌, List, [], ◌∷◌, ◌++◌, sym, refl, ap, ◌∙◌, subst}
use Rattle.grammar.specs.Forms.Form.{yes_form, one, two}
use Rattle.grammar.specs.Forms.Binary.{both, either, implies, until}
use Rattle.grammar.specs.Words.{Word}
use Rattle.grammar.specs.Words.Word.{close, square, unsquare, u_word, true_word}
use Rattle.grammar.specs.Grammar.{Tree, Viable}
use Rattle.grammar.specs.Machine.{Awaits, Stack, State, give, fresh, step, steps, final, start, Alive}
use Rattle.grammar.specs.Machine.Awaits.{a_rule, a_and, a_unary}
use Rattle.grammar.specs.Machine.Stack.{bottom, in_round, in_left, in_right, after_arrow, plain_or, after_bar, plain_and, after_amp, after_before}
use Rattle.grammar.specs.Machine.State.{need, need_square, have, dead}
use Rattle.grammar.specs.Machine.Ending.{whole}
use Rattle.grammar.proofs.Soundness.{sound, early_whole}
use Rattle.grammar.proofs.Completeness.{steps-append, RuleRead, have_or, complete_end}

-- some words lead from the state to an end
abbrev Can : State → Type 0
Can st = (vs : List Word) × (f : Tree) × (final (steps st vs) ≡ whole f)

-- a word more in front
one_more : (st t : State) (w : Word) → step st w ≡ t → Can t → Can st
one_more st t w e h = (w ∷ h.0, h.1, ap (λ x. final (steps x h.0)) e ∙ h.2)

abbrev CanT : (a : Awaits) → Stack a → Type 0
CanT a_rule s = (f : Tree) (st : State) → RuleRead st f s → Can st
CanT a_and s = (f : Tree) → Can (have f s)
CanT a_unary s = (f : Tree) → Can (give f s)

can : {a : Awaits} (s : Stack a) → CanT a s
can bottom = λ f st r. ([], f, r.on_end)
can (in_round s) = λ f st r. one_more st (give f s) close r.on_close (can s f)
can (in_left q s) = λ f st r.
    one_more st (fresh (in_right q f s)) u_word r.on_u
    (one_more (fresh (in_right q f s)) (have yes_form (plain_or (in_right q f s))) true_word refl
    (one_more (have yes_form (plain_or (in_right q f s))) (give (two (until q) f yes_form) s) unsquare refl
    (can s (two (until q) f yes_form))))
can (in_right q g s) = λ f st r. one_more st (give (two (until q) g f) s) unsquare r.on_unsquare (can s (two (until q) g f))
can (after_arrow g s) = λ f st r.
    can s (two implies g f) st (record { on_close = r.on_close; on_u = r.on_u; on_unsquare = r.on_unsquare; on_end = r.on_end })
can (plain_or s) = λ f. can s f (have f (plain_or s)) (have_or f (plain_or s)).as_rule
can (after_bar g s) = λ f. can s (two either g f) (have f (after_bar g s)) (have_or f (after_bar g s)).as_rule
can (plain_and s) = λ f. can s f
can (after_amp g s) = λ f. can s (two both g f)
can (after_before k s) = λ f. can s (one k f)

alive_can : (st : State) → Alive st → Can st
alive_can (need s) h = one_more (need s) (give yes_form s) true_word refl (can s yes_form)
alive_can (need_square q s) h =
    one_more (need_square q s) (fresh (in_left q s)) square refl
    (one_more (fresh (in_left q s)) (have yes_form (plain_or (in_left q s))) true_word refl
    (can (in_left q s) yes_form (have yes_form (plain_or (in_left q s))) (have_or yes_form (plain_or (in_left q s))).as_rule))
alive_can (have f s) h = can s f
alive_can dead h = absurd h

dead_stays : (ws : List Word) → steps dead ws ≡ dead
dead_stays [] = refl
dead_stays (w ∷ ws) = dead_stays ws

pub ended_alive : (st : State) (vs : List Word) (f : Tree) → final (steps st vs) ≡ whole f → Alive st
ended_alive (need s) vs f e = tt
ended_alive (need_square q s) vs f e = tt
ended_alive (have g s) vs f e = tt
ended_alive dead vs f e = early_whole (sym (ap final (dead_stays vs)) ∙ e)

pub alive_before : (st : State) (ws : List Word) → Alive (steps st ws) → Alive st
alive_before (need s) ws h = tt
alive_before (need_square q s) ws h = tt
alive_before (have f s) ws h = tt
alive_before dead ws h = subst Alive (dead_stays ws) h

pub viable : (ws : List Word) → Alive (steps start ws) → Viable ws
viable ws h =
    let c = alive_can (steps start ws) h in
    (c.0, (c.1, sound (ws ++ c.0) c.1 (ap final (steps-append ws c.0 start) ∙ c.2)))

pub alive : (ws : List Word) → Viable ws → Alive (steps start ws)
alive ws v =
    ended_alive (steps start ws) v.0 v.1.0
    (sym (ap final (steps-append ws v.0 start)) ∙ complete_end (ws ++ v.0) v.1.0 v.1.1)
