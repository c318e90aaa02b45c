-- The words of a text are its cut, and there is no other.
use Rattle.std.proofs.Common.{◌≡◌, ℕ, zero, suc, ◌+◌, ◌≤◌, Bool, true, false, cond, ◌&&◌, T, eqb, leb, ◌≢◌, List, [], ◌∷◌, ◌++◌, length, drop, sym, refl, ap, ◌∙◌, subst, add-one, arith, eqb→eq, eq-eqb, ne_eqb, le-leb, leb-false, leb-true}
use lib.Seq.{drop-append_seam}
use borrow.Author.Tests.{lt-leb}
use Rattle.grammar.specs.Forms.Unary.{neg}
use Rattle.grammar.specs.Words.{Word, Stream, letter, inner, spelled}
use Rattle.grammar.specs.Scanning.{Front, running, arrowed, front, onward, words, from}
use Rattle.grammar.specs.Words.Word.{open_word, close, square, unsquare, amp, bar, arrow, before}
use Rattle.grammar.specs.Scanning.Front.{word, none, long}
use Rattle.grammar.specs.Words.Slip.{no_word, too_long}
use Rattle.grammar.specs.Words.Stream.{end, slip, next}
use Rattle.grammar.specs.Names.{all_inner}
use Rattle.grammar.specs.Cuts.{Sign, Stops, NotFirst, Strange, Cut}
use Rattle.grammar.specs.Cuts.Sign.{sign_open, sign_close, sign_square, sign_unsquare, sign_not, sign_and, sign_or}
use Rattle.grammar.specs.Cuts.Cut.{cut_end, cut_space, cut_sign, cut_arrow, cut_run, cut_long, cut_none}
use Rattle.grammar.proofs.Chains.{past}
use Rattle.grammar.proofs.Streams.{letter_front, skip_words}
use Rattle.grammar.proofs.Roundtrip.{run_all}

sign_front : (b : ℕ) (w : Word) (bs : List ℕ) → Sign b w → front b bs ≡ word 0 w
unfolding front
sign_front _ _ bs sign_open = refl
sign_front _ _ bs sign_close = refl
sign_front _ _ bs sign_square = refl
sign_front _ _ bs sign_unsquare = refl
sign_front _ _ bs sign_not = refl
sign_front _ _ bs sign_and = refl
sign_front _ _ bs sign_or = refl

-- a byte that is none of the signs
apart : (b c : ℕ) (w : Word) → Sign c w → ((v : Word) → Sign b v → ⊥) → false ≡ eqb b c
apart b c w s h = sym (ne_eqb b c (λ e. h w (subst (λ x. Sign x w) (sym e) s)))

dash_none : (b : ℕ) (bs : List ℕ) (t : Bool) → eqb b 45 ≡ t → (b ≡ 45 → NotFirst 62 bs) → none ≡ cond t (arrowed bs) none
dash_none b bs false e h = refl
dash_none b [] true e h = refl
dash_none b (c ∷ bs) true e h = past (word 1 arrow) none (sym (ne_eqb c 62 (h (eqb→eq b 45 (subst T (sym e) tt))))) refl

strange_front : (b : ℕ) (bs : List ℕ) → Strange b bs → front b bs ≡ none
unfolding front
strange_front b bs h =
    sym (past _ _ (sym (ne_eqb b 32 h.no_space))
    (past _ _ (sym h.no_letter)
    (past _ _ (apart b 40 _ sign_open h.no_sign)
    (past _ _ (apart b 41 _ sign_close h.no_sign)
    (past _ _ (apart b 91 _ sign_square h.no_sign)
    (past _ _ (apart b 93 _ sign_unsquare h.no_sign)
    (past _ _ (apart b 33 _ sign_not h.no_sign)
    (past _ _ (apart b 38 _ sign_and h.no_sign)
    (past _ _ (apart b 124 _ sign_or h.no_sign)
    (dash_none b bs (eqb b 45) refl h.no_arrow))))))))))

begin_at : (b : ℕ) (bs : List ℕ) (p : ℕ) (f : Front) → front b bs ≡ f → words p 0 (b ∷ bs) ≡ onward p f (λ k. words (suc p) k bs)
unfolding words
begin_at b bs p f e = ap (λ x. onward p x (λ k. words (suc p) k bs)) e

run_words : (b : ℕ) (r bs : List ℕ) (p : ℕ) → letter b ≡ true → all_inner r ≡ true → Stops bs → length r ≤ 15 → words p 0 (b ∷ (r ++ bs)) ≡ next p (spelled (b ∷ r)) (words (p + suc (length r)) 0 bs)
run_words b r bs p l a c n =
    begin_at b (r ++ bs) p (word (length r) (spelled (b ∷ r)))
    (letter_front b (r ++ bs) l ∙ ap (running b) (run_all r bs a c) ∙ ap (λ t. cond t (word (length r) (spelled (b ∷ r))) long) (le-leb _ 15 n))
    ∙ ap (next p (spelled (b ∷ r)))
    (skip_words (r ++ bs) (length r) (suc p) (within r bs) ∙ ap (words (suc p + length r) 0) (drop-append_seam r bs) ∙ ap (λ q. words q 0 bs) (omega arith))
  where
    within : (r bs : List ℕ) → length r ≤ length (r ++ bs)
    within [] bs = omega arith
    within (x ∷ r) bs = omega (arith, within r bs)

pub only_cut : {p : ℕ} {bs : List ℕ} {s : Stream} → Cut p bs s → words p 0 bs ≡ s
unfolding words front
only_cut cut_end = refl
only_cut (cut_space {p = p} {bs = bs} c) = ap (λ q. words q 0 bs) (sym (add-one p)) ∙ only_cut c
only_cut (cut_sign {p = p} {b = b} {bs = bs} {w = w} g c) =
    begin_at b bs p (word 0 w) (sign_front b w bs g) ∙ ap (next p w) (ap (λ q. words q 0 bs) (sym (add-one p)) ∙ only_cut c)
only_cut (cut_arrow {p = p} {bs = bs} c) = ap (next p arrow) (ap (λ q. words q 0 bs) (omega arith) ∙ only_cut c)
only_cut (cut_run [] bs h k n c) = absurd h
only_cut (cut_run {p = p} (b ∷ r) bs h k n c) = run_words b r bs p h.0 h.1 k (omega arith) ∙ ap (next p (spelled (b ∷ r))) (only_cut c)
only_cut (cut_long [] bs h k n) = absurd h
only_cut (cut_long {p = p} (b ∷ r) bs h k n) =
    begin_at b (r ++ bs) p long
    (letter_front b (r ++ bs) h.0 ∙ ap (running b) (run_all r bs h.1 k) ∙ ap (λ t. cond t (word (length r) (spelled (b ∷ r))) long) (lt-leb _ 15 (omega arith)))
only_cut (cut_none {p = p} {b = b} {bs = bs} h) = begin_at b bs p none (strange_front b bs h)

-- the run of the bytes, and what is left after it
record Parted (bs : List ℕ) : Type 0 where
  taken : List ℕ
  rest : List ℕ
  whole : bs ≡ taken ++ rest
  all : all_inner taken ≡ true
  stops : Stops rest
  fewer : length rest ≤ length bs

parted : (bs : List ℕ) → Parted bs
parted [] = record { taken = []; rest = []; whole = refl; all = refl; stops = tt; fewer = omega arith }
parted (b ∷ bs) = go (parted bs) (inner b) refl
  where
    go : Parted bs → (t : Bool) → inner b ≡ t → Parted (b ∷ bs)
    go p true e = record {
      taken = b ∷ p.taken;
      rest = p.rest;
      whole = ap (λ l. b ∷ l) p.whole;
      all = ap (λ t. t && all_inner p.taken) e ∙ p.all;
      stops = p.stops;
      fewer = omega (arith, p.fewer);
    }
    go p false e = record { taken = []; rest = b ∷ bs; whole = refl; all = refl; stops = e; fewer = omega arith }

-- a byte is one of the signs, or none
data Signs (b : ℕ) : Type 0 where
  is_sign : (w : Word) → Sign b w → Signs b
  no_signs : ((w : Word) → Sign b w → ⊥) → Signs b

sign_none : (b : ℕ) → b ≢ 40 → b ≢ 41 → b ≢ 91 → b ≢ 93 → b ≢ 33 → b ≢ 38 → b ≢ 124 → (w : Word) → Sign b w → ⊥
sign_none _ a b c d e f g _ sign_open = a refl
sign_none _ a b c d e f g _ sign_close = b refl
sign_none _ a b c d e f g _ sign_square = c refl
sign_none _ a b c d e f g _ sign_unsquare = d refl
sign_none _ a b c d e f g _ sign_not = e refl
sign_none _ a b c d e f g _ sign_and = f refl
sign_none _ a b c d e f g _ sign_or = g refl

-- one test of a byte
tested : {P : Type 0} (b c : ℕ) → (b ≡ c → P) → (b ≢ c → P) → P
tested {P} b c y n = go (eqb b c) refl
  where
    go : (t : Bool) → eqb b c ≡ t → P
    go true e = y (eqb→eq b c (subst T (sym e) tt))
    go false e = n (λ x. subst T (sym (eq-eqb b c x) ∙ e) tt)

signs : (b : ℕ) → Signs b
signs b =
    tested b 40 (λ e. is_sign open_word (subst (λ x. Sign x open_word) (sym e) sign_open)) (λ n₁.
    tested b 41 (λ e. is_sign close (subst (λ x. Sign x close) (sym e) sign_close)) (λ n₂.
    tested b 91 (λ e. is_sign square (subst (λ x. Sign x square) (sym e) sign_square)) (λ n₃.
    tested b 93 (λ e. is_sign unsquare (subst (λ x. Sign x unsquare) (sym e) sign_unsquare)) (λ n₄.
    tested b 33 (λ e. is_sign (before neg) (subst (λ x. Sign x (before neg)) (sym e) sign_not)) (λ n₅.
    tested b 38 (λ e. is_sign amp (subst (λ x. Sign x amp) (sym e) sign_and)) (λ n₆.
    tested b 124 (λ e. is_sign bar (subst (λ x. Sign x bar) (sym e) sign_or)) (λ n₇.
    no_signs (sign_none b n₁ n₂ n₃ n₄ n₅ n₆ n₇))))))))

abbrev SomeCut : ℕ → List ℕ → Type 0
SomeCut p bs = (s : Stream) × Cut p bs s

-- a letter, with the run after it
at_letter : (b : ℕ) (bs : List ℕ) (p : ℕ) → letter b ≡ true → ((cs : List ℕ) (q : ℕ) → length cs ≤ length bs → SomeCut q cs) → SomeCut p (b ∷ bs)
at_letter b bs p l more = go (parted bs)
  where
    go : Parted bs → SomeCut p (b ∷ bs)
    go k = subst (λ x. SomeCut p (b ∷ x)) (sym k.whole) (by (leb (length k.taken) 15) refl)
      where
        by : (t : Bool) → leb (length k.taken) 15 ≡ t → SomeCut p (b ∷ (k.taken ++ k.rest))
        by true e =
            let c = more k.rest (p + length (b ∷ k.taken)) k.fewer in
            (next p (spelled (b ∷ k.taken)) c.0, cut_run (b ∷ k.taken) k.rest (l, k.all) k.stops (omega (arith, leb-true _ _ e)) c.1)
        by false e = (slip too_long p, cut_long (b ∷ k.taken) k.rest (l, k.all) k.stops (omega (arith, leb-false _ _ e)))

-- a dash, or a byte that is nothing
at_other : (b : ℕ) (bs : List ℕ) (p : ℕ) → b ≢ 32 → letter b ≡ false → ((w : Word) → Sign b w → ⊥) → ((cs : List ℕ) (q : ℕ) → length cs ≤ length bs → SomeCut q cs) → SomeCut p (b ∷ bs)
at_other b [] p sp l n more = (slip no_word p, cut_none (record { no_space = sp; no_letter = l; no_sign = n; no_arrow = λ e. tt }))
at_other b (c ∷ bs) p sp l n more =
    tested b 45 (λ e.
    tested c 62 (λ f.
    let k = more bs (p + 2) (omega arith) in
    subst (λ x. SomeCut p (x ∷ c ∷ bs)) (sym e) (subst (λ x. SomeCut p (45 ∷ x ∷ bs)) (sym f) (next p arrow k.0, cut_arrow k.1)))
    (λ f. (slip no_word p, cut_none (record { no_space = sp; no_letter = l; no_sign = n; no_arrow = λ x. f }))))
    (λ e. (slip no_word p, cut_none (record { no_space = sp; no_letter = l; no_sign = n; no_arrow = λ x. absurd (e x) })))

at_byte : (b : ℕ) (bs : List ℕ) (p : ℕ) → ((cs : List ℕ) (q : ℕ) → length cs ≤ length bs → SomeCut q cs) → SomeCut p (b ∷ bs)
at_byte b bs p more =
    tested b 32 (λ e. let k = more bs (p + 1) (omega arith) in subst (λ x. SomeCut p (x ∷ bs)) (sym e) (k.0, cut_space k.1))
    (λ sp. by sp (letter b) refl (signs b))
  where
    by : b ≢ 32 → (t : Bool) → letter b ≡ t → Signs b → SomeCut p (b ∷ bs)
    by sp true l s = at_letter b bs p l more
    by sp false l (is_sign w s) = let k = more bs (p + 1) (omega arith) in (next p w k.0, cut_sign s k.1)
    by sp false l (no_signs n) = at_other b bs p sp l n more

some_cut : (n : ℕ) (bs : List ℕ) (p : ℕ) → length bs ≤ n → SomeCut p bs
some_cut n [] p h = (end p, cut_end)
some_cut zero (b ∷ bs) p h = absurd (omega arith)
some_cut (suc n) (b ∷ bs) p h = at_byte b bs p (λ cs q k. some_cut n cs q (omega arith))

pub is_cut : (bs : List ℕ) (p : ℕ) → Cut p bs (words p 0 bs)
is_cut bs p = let k = some_cut (length bs) bs p (omega arith) in subst (Cut p bs) (sym (only_cut k.1)) k.1

pub from_cut : (text : List ℕ) (p : ℕ) → Cut p (drop p text) (from text p)
unfolding from
from_cut text p = is_cut (drop p text) p
