-- A written rule, read with its name list, is that rule.
use Rattle.std.proofs.Common.{◌≡◌, ℕ, zero, suc, ◌+◌, ◌*◌, ◌<◌, ◌≤◌, true, false, cond, ◌&&◌, List, [], ◌∷◌, ◌++◌, length, get_or, sym, refl, ap, ◌∙◌, subst, append_assoc, append-nil, add-zero, zero-add, arith, length-append, eq-eqb, le-leb}
use Rattle.std.proofs.lemmas.Bool.{and_parts}
use Rattle.grammar.specs.Forms.{Form, Unary, Binary, size}
use Rattle.grammar.specs.Forms.Form.{yes_form, no_form, leaf, one, two}
use Rattle.grammar.specs.Forms.Unary.{neg, ex, ax, ef, af, eg, ag}
use Rattle.grammar.specs.Forms.Path.{every, some}
use Rattle.grammar.specs.Forms.Binary.{both, either, implies, until}
use Rattle.grammar.specs.Words.{Word, Stream, letter, inner, same, spelled}
use Rattle.grammar.specs.Scanning.{run, running, front, onward, words, words_of}
use Rattle.grammar.specs.Words.Word.{open_word, close, square, unsquare, amp, bar, arrow, before, path, u_word, true_word, false_word, name}
use Rattle.grammar.specs.Scanning.Front.{word, long}
use Rattle.grammar.specs.Words.Stream.{next}
use Rattle.grammar.specs.Grammar.{Tree, Is}
use Rattle.grammar.specs.Grammar.Level.{rule, unary}
use Rattle.grammar.specs.Grammar.Is.{rule_or, rule_arrow, or_and, or_bar, and_unary, and_amp, unary_before, unary_atom, atom_true, atom_false, atom_name, atom_round, atom_until}
use Rattle.grammar.specs.Answering.{listed, bare, halt, meant, resolve, AllWords}
use Rattle.grammar.specs.Reading.{read_of}
use Rattle.grammar.specs.Answering.Halt.{at_end}
use Rattle.grammar.specs.Answering.Answer.{the_rule}
use Rattle.grammar.specs.Answering.TextAnswer.{accepted}
use Rattle.grammar.specs.Cuts.{Stops}
use Rattle.grammar.specs.Names.{all_inner, Name, Names, Known}
use Rattle.grammar.specs.Writing.{mark, opening, middle, closing, written}
use Rattle.grammar.proofs.Answering.{Ends, words_end, only}
use Rattle.grammar.proofs.Streams.{letter_front}

abbrev first : Binary → List Word
first both = open_word ∷ []
first either = open_word ∷ []
first implies = open_word ∷ []
first (until q) = path q ∷ square ∷ []

abbrev between : Binary → Word
between both = amp
between either = bar
between implies = arrow
between (until q) = u_word

abbrev last : Binary → Word
last both = close
last either = close
last implies = close
last (until q) = unsquare

-- the words of a written form, and the tree that they stand for
abbrev tokens : List (List ℕ) → Form ℕ → List Word
tokens names yes_form = true_word ∷ []
tokens names no_form = false_word ∷ []
tokens names (leaf i) = name (get_or names i []) ∷ []
tokens names (one k f) = before k ∷ tokens names f
tokens names (two k f g) = first k ++ (tokens names f ++ (between k ∷ [] ++ (tokens names g ++ last k ∷ [])))

abbrev named : List (List ℕ) → Form ℕ → Tree
named names yes_form = yes_form
named names no_form = no_form
named names (leaf i) = leaf (get_or names i [])
named names (one k f) = one k (named names f)
named names (two k f g) = two k (named names f) (named names g)

-- the words of a written form are a unary of the grammar
pair_is : (k : Binary) (us vs : List Word) (f g : Tree) → Is unary us f → Is unary vs g → Is unary (first k ++ (us ++ (between k ∷ [] ++ (vs ++ last k ∷ [])))) (two k f g)
pair_is both us vs f g d e =
    subst (λ l. Is unary (open_word ∷ l) (two both f g)) (append_assoc us (amp ∷ vs) (close ∷ []))
    (unary_atom (atom_round (rule_or (or_and (and_amp (and_unary d) e)))))
pair_is either us vs f g d e =
    subst (λ l. Is unary (open_word ∷ l) (two either f g)) (append_assoc us (bar ∷ vs) (close ∷ []))
    (unary_atom (atom_round (rule_or (or_bar (or_and (and_unary d)) (and_unary e)))))
pair_is implies us vs f g d e =
    subst (λ l. Is unary (open_word ∷ l) (two implies f g)) (append_assoc us (arrow ∷ vs) (close ∷ []))
    (unary_atom (atom_round (rule_arrow (or_and (and_unary d)) (rule_or (or_and (and_unary e))))))
pair_is (until q) us vs f g d e =
    subst (λ l. Is unary (path q ∷ square ∷ l) (two (until q) f g)) (append_assoc us (u_word ∷ vs) (unsquare ∷ []))
    (unary_atom (atom_until q (rule_or (or_and (and_unary d))) (rule_or (or_and (and_unary e)))))

tokens_is : (names : List (List ℕ)) (f : Form ℕ) → Is unary (tokens names f) (named names f)
tokens_is names yes_form = unary_atom atom_true
tokens_is names no_form = unary_atom atom_false
tokens_is names (leaf i) = unary_atom (atom_name (get_or names i []))
tokens_is names (one k f) = unary_before k (tokens_is names f)
tokens_is names (two k f g) = pair_is k (tokens names f) (tokens names g) (named names f) (named names g) (tokens_is names f) (tokens_is names g)

-- the stream has these words first, and then those of the bytes bs
abbrev Lexes : Stream → List Word → List ℕ → Type 0
Lexes s [] bs = (q : ℕ) × (s ≡ words q 0 bs)
Lexes s (w ∷ ws) bs = (p : ℕ) × (t : Stream) × (s ≡ next p w t) × Lexes t ws bs

lex_join : (us vs : List Word) (s : Stream) (bs cs : List ℕ) → Lexes s us bs → ((q : ℕ) → Lexes (words q 0 bs) vs cs) → Lexes s (us ++ vs) cs
lex_join [] vs s bs cs h k = subst (λ x. Lexes x vs cs) (sym h.1) (k h.0)
lex_join (u ∷ us) vs s bs cs h k = (h.0, h.1, h.2, lex_join us vs h.1 bs cs h.3 k)

run_clear : (bs : List ℕ) → Stops bs → run bs ≡ []
run_clear [] h = refl
run_clear (b ∷ bs) h = ap (λ x. cond x (b ∷ run bs) []) h

pub run_all : (r bs : List ℕ) → all_inner r ≡ true → Stops bs → run (r ++ bs) ≡ r
run_all [] bs e h = run_clear bs h
run_all (x ∷ r) bs e h =
    let k = and_parts (inner x) (all_inner r) e in
    ap (λ b. cond b (x ∷ run (r ++ bs)) []) k.0 ∙ ap (λ l. x ∷ l) (run_all r bs k.1 h)

skipped : (r bs : List ℕ) (p : ℕ) → (q : ℕ) × (words p (length r) (r ++ bs) ≡ words q 0 bs)
unfolding words
skipped [] bs p = (p, refl)
skipped (x ∷ r) bs p = skipped r bs (suc p)

front_run : (b : ℕ) (r bs : List ℕ) → letter b ≡ true → all_inner r ≡ true → length r ≤ 15 → Stops bs → front b (r ++ bs) ≡ word (length r) (spelled (b ∷ r))
front_run b r bs l a n h =
    letter_front b (r ++ bs) l
    ∙ ap (running b) (run_all r bs a h)
    ∙ ap (λ t. cond t (word (length r) (spelled (b ∷ r))) long) (le-leb (length r) 15 n)

lex_run : (b : ℕ) (r bs : List ℕ) (p : ℕ) (w : Word) → letter b ≡ true → all_inner r ≡ true → length r ≤ 15 → spelled (b ∷ r) ≡ w → Stops bs → Lexes (words p 0 (b ∷ (r ++ bs))) (w ∷ []) bs
unfolding words
lex_run b r bs p w l a n s h = (
  p,
  words (suc p) (length r) (r ++ bs),
  ap (λ f. onward p f (λ k. words (suc p) k (r ++ bs))) (front_run b r bs l a n h) ∙ ap (λ x. next p x (words (suc p) (length r) (r ++ bs))) s,
  skipped r bs (suc p),
)

lex_name : (n bs : List ℕ) (p : ℕ) → Name n → Stops bs → Lexes (words p 0 (n ++ bs)) (name n ∷ []) bs
lex_name [] bs p h c = absurd h
lex_name (b ∷ r) bs p h c = lex_run b r bs p (name (b ∷ r)) h.0 h.1 h.2 h.3 c

lex_true : (bs : List ℕ) (p : ℕ) → Stops bs → Lexes (words p 0 (116 ∷ 114 ∷ 117 ∷ 101 ∷ bs)) (true_word ∷ []) bs
unfolding spelled
lex_true bs p c = lex_run 116 (114 ∷ 117 ∷ 101 ∷ []) bs p true_word refl refl (omega arith) refl c

lex_false : (bs : List ℕ) (p : ℕ) → Stops bs → Lexes (words p 0 (102 ∷ 97 ∷ 108 ∷ 115 ∷ 101 ∷ bs)) (false_word ∷ []) bs
unfolding spelled
lex_false bs p c = lex_run 102 (97 ∷ 108 ∷ 115 ∷ 101 ∷ []) bs p false_word refl refl (omega arith) refl c

lex_mark : (k : Unary) (bs : List ℕ) (p : ℕ) → Lexes (words p 0 (mark k ++ bs)) (before k ∷ []) bs
unfolding words front spelled
lex_mark neg bs p = (p, words (suc p) 0 bs, refl, (suc p, refl))
lex_mark ex bs p = (p, words (suc (suc (suc p))) 0 bs, refl, (suc (suc (suc p)), refl))
lex_mark ax bs p = (p, words (suc (suc (suc p))) 0 bs, refl, (suc (suc (suc p)), refl))
lex_mark ef bs p = (p, words (suc (suc (suc p))) 0 bs, refl, (suc (suc (suc p)), refl))
lex_mark af bs p = (p, words (suc (suc (suc p))) 0 bs, refl, (suc (suc (suc p)), refl))
lex_mark eg bs p = (p, words (suc (suc (suc p))) 0 bs, refl, (suc (suc (suc p)), refl))
lex_mark ag bs p = (p, words (suc (suc (suc p))) 0 bs, refl, (suc (suc (suc p)), refl))

lex_opening : (k : Binary) (bs : List ℕ) (p : ℕ) → Lexes (words p 0 (opening k ++ bs)) (first k) bs
unfolding words front spelled
lex_opening both bs p = (p, words (suc p) 0 bs, refl, (suc p, refl))
lex_opening either bs p = (p, words (suc p) 0 bs, refl, (suc p, refl))
lex_opening implies bs p = (p, words (suc p) 0 bs, refl, (suc p, refl))
lex_opening (until every) bs p = (p, words (suc p) 0 (91 ∷ bs), refl, (suc p, words (suc (suc p)) 0 bs, refl, (suc (suc p), refl)))
lex_opening (until some) bs p = (p, words (suc p) 0 (91 ∷ bs), refl, (suc p, words (suc (suc p)) 0 bs, refl, (suc (suc p), refl)))

lex_middle : (k : Binary) (bs : List ℕ) (p : ℕ) → Lexes (words p 0 (middle k ++ bs)) (between k ∷ []) bs
unfolding words front spelled
lex_middle both bs p = (suc p, words (suc (suc (suc p))) 0 bs, refl, (suc (suc (suc p)), refl))
lex_middle either bs p = (suc p, words (suc (suc (suc p))) 0 bs, refl, (suc (suc (suc p)), refl))
lex_middle implies bs p = (suc p, words (suc (suc (suc (suc p)))) 0 bs, refl, (suc (suc (suc (suc p))), refl))
lex_middle (until q) bs p = (suc p, words (suc (suc (suc p))) 0 bs, refl, (suc (suc (suc p)), refl))

lex_closing : (k : Binary) (bs : List ℕ) (p : ℕ) → Lexes (words p 0 (closing k ++ bs)) (last k ∷ []) bs
unfolding words front spelled
lex_closing both bs p = (p, words (suc p) 0 bs, refl, (suc p, refl))
lex_closing either bs p = (p, words (suc p) 0 bs, refl, (suc p, refl))
lex_closing implies bs p = (p, words (suc p) 0 bs, refl, (suc p, refl))
lex_closing (until q) bs p = (p, words (suc p) 0 bs, refl, (suc p, refl))

clear_middle : (k : Binary) (bs : List ℕ) → Stops (middle k ++ bs)
clear_middle both bs = refl
clear_middle either bs = refl
clear_middle implies bs = refl
clear_middle (until q) bs = refl

clear_closing : (k : Binary) (bs : List ℕ) → Stops (closing k ++ bs)
clear_closing both bs = refl
clear_closing either bs = refl
clear_closing implies bs = refl
clear_closing (until q) bs = refl

module _ (names : List (List ℕ)) (valid : Names names) where
  lex : (f : Form ℕ) (bs : List ℕ) (p : ℕ) → Known names f → Stops bs → Lexes (words p 0 (written names f ++ bs)) (tokens names f) bs
  lex yes_form bs p k c = lex_true bs p c
  lex no_form bs p k c = lex_false bs p c
  lex (leaf i) bs p k c = lex_name (get_or names i []) bs p (valid.each i k) c
  lex (one o f) bs p k c =
      subst (λ l. Lexes (words p 0 l) (before o ∷ tokens names f) bs) (sym (append_assoc (mark o) (written names f) bs))
      (lex_join (before o ∷ []) (tokens names f) (words p 0 (mark o ++ (written names f ++ bs))) (written names f ++ bs) bs
      (lex_mark o (written names f ++ bs) p) (λ q. lex f bs q k c))
  lex (two o f g) bs p k c =
      let after-g : List ℕ = closing o ++ bs in
      let at_g : List ℕ = written names g ++ after-g in
      let after-f : List ℕ = middle o ++ at_g in
      subst (λ l. Lexes (words p 0 l) (tokens names (two o f g)) bs) (sym (simp append_assoc))
      (lex_join (first o) (tokens names f ++ (between o ∷ [] ++ (tokens names g ++ last o ∷ []))) (words p 0 (opening o ++ (written names f ++ after-f))) (written names f ++ after-f) bs
      (lex_opening o (written names f ++ after-f) p)
      (λ q. lex_join (tokens names f) (between o ∷ [] ++ (tokens names g ++ last o ∷ [])) (words q 0 (written names f ++ after-f)) after-f bs
      (lex f after-f q k.0 (clear_middle o at_g))
      (λ q. lex_join (between o ∷ []) (tokens names g ++ last o ∷ []) (words q 0 after-f) at_g bs
      (lex_middle o at_g q)
      (λ q. lex_join (tokens names g) (last o ∷ []) (words q 0 at_g) after-g bs
      (lex g after-g q k.1 (clear_closing o bs))
      (λ q. lex_closing o bs q)))))

  name_short : (n : List ℕ) → Name n → length n ≤ 16
  name_short [] h = absurd h
  name_short (b ∷ r) h = omega (arith, h.2)

  mark_short : (o : Unary) → length (mark o) ≤ 3
  mark_short neg = omega arith
  mark_short ex = omega arith
  mark_short ax = omega arith
  mark_short ef = omega arith
  mark_short af = omega arith
  mark_short eg = omega arith
  mark_short ag = omega arith

  signs_short : (o : Binary) → length (opening o) + length (middle o) + length (closing o) ≤ 6
  signs_short both = omega arith
  signs_short either = omega arith
  signs_short implies = omega arith
  signs_short (until every) = omega arith
  signs_short (until some) = omega arith

  -- at most 11 bytes a part and 5 more
  pub short : (f : Form ℕ) → Known names f → length (written names f) ≤ 11 * size f + 5
  short yes_form k = omega arith
  short no_form k = omega arith
  short (leaf i) k = omega (arith, name_short (get_or names i []) (valid.each i k))
  short (one o f) k = simp length-append (omega (arith, mark_short o, short f k))
  short (two o f g) k = simp length-append (omega (arith, signs_short o, short f k.0, short g k.1))

-- one name is another only where the test says so
same_refl : (n : List ℕ) → same n n ≡ true
same_refl [] = refl
same_refl (x ∷ n) = ap (λ b. b && same n n) (eq-eqb x x refl) ∙ same_refl n

meant_at : (ms : List (List ℕ)) (i base : ℕ) → i < length ms → ((a b : ℕ) → a < b → b < length ms → same (get_or ms a []) (get_or ms b []) ≡ false) → meant base ms (get_or ms i []) ≡ leaf (base + i)
meant_at [] i base h apart = absurd (omega arith)
meant_at (m ∷ ms) zero base h apart =
    ap (λ b. cond b (leaf base) (meant (suc base) ms m)) (same_refl m) ∙ ap leaf (sym (add-zero base))
meant_at (m ∷ ms) (suc i) base h apart =
    ap (λ b. cond b (leaf base) (meant (suc base) ms (get_or ms i []))) (apart 0 (suc i) (omega arith) h)
    ∙ meant_at ms i (suc base) (omega arith) (λ a b x y. apart (suc a) (suc b) (omega arith) (omega arith))
    ∙ ap leaf (omega arith)

resolve-named : (names : List (List ℕ)) → Names names → (f : Form ℕ) → Known names f → resolve names (named names f) ≡ f
resolve-named names v yes_form k = refl
resolve-named names v no_form k = refl
resolve-named names v (leaf i) k = meant_at names i 0 k v.apart ∙ ap leaf (zero-add i)
resolve-named names v (one o f) k = ap (one o) (resolve-named names v f k)
resolve-named names v (two o f g) k = λ i. two o (resolve-named names v f k.0 i) (resolve-named names v g k.1 i)

size-named : (names : List (List ℕ)) (f : Form ℕ) → size (named names f) ≡ size f
size-named names yes_form = refl
size-named names no_form = refl
size-named names (leaf i) = refl
size-named names (one o f) = ap (λ n. n + 1) (size-named names f)
size-named names (two o f g) = λ i. size-named names f i + size-named names g i + 1

-- a stream whose words are all read
lexed_words : (ws : List Word) (s : Stream) → Lexes s ws [] → bare (listed s) ≡ ws
unfolding words
lexed_words [] s h = ap (λ x. bare (listed x)) h.1
lexed_words (w ∷ ws) s h = ap (λ x. bare (listed x)) h.2 ∙ ap (λ l. w ∷ l) (lexed_words ws h.1 h.3)

lexed_halt : (ws : List Word) (s : Stream) → Lexes s ws [] → (q : ℕ) × (halt s ≡ at_end q)
unfolding words
lexed_halt [] s h = (h.0, ap halt h.1)
lexed_halt (w ∷ ws) s h = let k = lexed_halt ws h.1 h.3 in (k.0, ap halt h.2 ∙ k.1)

pub reads_back : (names : List (List ℕ)) (f : Form ℕ) → Names names → Known names f → size f ≤ 64 → read_of names (written names f) ≡ the_rule f
reads_back names f v k n =
    let text : List ℕ = written names f in
    let lexed : Lexes (words_of text) (tokens names f) [] = subst (λ l. Lexes (words 0 0 l) (tokens names f) []) (append-nil text) (lex names v f [] 0 k tt) in
    let stop = lexed_halt (tokens names f) (words_of text) lexed in
    let last-place : stop.0 ≡ 0 + length text = subst (λ h. Ends h (0 + length text)) stop.1 (words_end text 0 0) in
    let all : AllWords text (words_of text) = record { within = omega (arith, short names v f k); clean = stop.1 ∙ ap at_end (omega arith) } in
    only names text
    (accepted (named names f) all
    (subst (λ l. Is rule l (named names f)) (sym (lexed_words (tokens names f) (words_of text) lexed)) (rule_or (or_and (and_unary (tokens_is names f)))))
    (subst (λ m. m ≤ 64) (sym (size-named names f)) n))
    ∙ ap the_rule (resolve-named names v f k)
