-- A rule that was read can be written, and read again it is the same.
use Rattle.std.proofs.Common.{◌≡◌, ℕ, suc, ◌+◌, ◌≤◌, true, false, cond, List, [], ◌∷◌, length, sym, ap, ◌∙◌, subst, arith}
use Rattle.grammar.specs.Forms.{Form, size}
use Rattle.grammar.specs.Forms.Form.{yes_form, no_form, leaf, one, two}
use Rattle.grammar.specs.Words.{Stream, same}
use Rattle.grammar.specs.Grammar.{Tree}
use Rattle.grammar.specs.Answering.{Answer, TextAnswer, meant, resolve}
use Rattle.grammar.specs.Reading.{read_of}
use Rattle.grammar.specs.Answering.Answer.{the_rule, fault}
use Rattle.grammar.specs.Answering.TextAnswer.{over_long, no_words, stray, unfinished, too_many, accepted}
use Rattle.grammar.specs.Names.{Names, Known}
use Rattle.grammar.specs.Writing.{written}
use Rattle.grammar.specs.Reading.{answer_of, first_list}
use Rattle.grammar.specs.Answering.{Answering}
use Rattle.grammar.specs.Answering.Answering.{long_list, bad_entry, good_list}
use Rattle.grammar.proofs.Answering.{size-resolve}
use Rattle.grammar.proofs.Listings.{answers_all, right_names}
use Rattle.grammar.proofs.Roundtrip.{reads_back}

-- an entry that is found is one of the list
known_meant : (all ms : List (List ℕ)) (i : ℕ) (n : List ℕ) → i + length ms ≡ length all → Known all (meant i ms n)
known_meant all [] i n e = tt
known_meant all (m ∷ ms) i n e =
    elim (same m n) as (λ b. Known all (cond b (leaf i) (meant (suc i) ms n))) [ true ↦ omega arith | false ↦ known_meant all ms (suc i) n (omega arith) ]

known_resolve : (names : List (List ℕ)) (f : Tree) → Known names (resolve names f)
known_resolve names yes_form = tt
known_resolve names no_form = tt
known_resolve names (leaf n) = known_meant names names 0 n (omega arith)
known_resolve names (one k f) = known_resolve names f
known_resolve names (two k f g) = (known_resolve names f, known_resolve names g)

abbrev Sound : List (List ℕ) → Answer → Type 0
Sound names (the_rule f) = Known names f × (size f ≤ 64)
Sound names (fault n p) = Unit {0}

sound_reading : (names : List (List ℕ)) (text : List ℕ) (s : Stream) {a : Answer} → TextAnswer names text s a → Sound names a
sound_reading names text s (over_long h) = tt
sound_reading names text s (no_words e p n h) = tt
sound_reading names text s (stray us vs p w all h v d) = tt
sound_reading names text s (unfinished all v d) = tt
sound_reading names text s (too_many f all d h) = tt
sound_reading names text s (accepted f all d h) = (known_resolve names f, subst (λ n. n ≤ 64) (sym (size-resolve names f)) h)

abbrev Whole : List (List ℕ) → Answer → Type 0
Whole names (the_rule f) = Names names × Known names f × (size f ≤ 64)
Whole names (fault n p) = Unit {0}

both_sound : (names : List (List ℕ)) (a : Answer) → Names names → Sound names a → Whole names a
both_sound names (the_rule f) v s = (v, s.0, s.1)
both_sound names (fault n p) v s = tt

whole_answer : (names : List (List ℕ)) (text : List ℕ) {a : Answer} → Answering names text a → Whole names a
whole_answer names text (long_list h) = tt
whole_answer names text (bad_entry p n h b w) = tt
whole_answer names text (good_list a s v k r) = both_sound names a v (sound_reading names text s r)

pub reread : (names : List (List ℕ)) (text : List ℕ) (f : Form ℕ) → answer_of names text ≡ the_rule f → (Names names × Known names f × (size f ≤ 64)) × (answer_of names (written names f) ≡ the_rule f)
reread names text f e =
    let w : Names names × Known names f × (size f ≤ 64) = subst (Whole names) e (whole_answer names text (answers_all names text)) in
    (w, ap (λ x. first_list x (read_of names (written names f))) (right_names names w.0) ∙ reads_back names f w.0 w.1 w.2)
