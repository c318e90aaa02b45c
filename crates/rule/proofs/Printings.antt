-- The steps of the writer.
use Rattle.std.proofs.Common.{◌≡◌, ℕ, ◌+◌, ◌<◌, ◌≤◌, Bool, true, false, cond, List, [], ◌++◌, length, get_or, Ok, Err, Result, sym, refl, ap, ◌∙◌, subst, append_assoc, arith, length-append}
use Rattle.std.specs.Result.{IsOk}
use Rattle.fixed_vec.specs.FixedVec.{Extended, items}
use Rattle.fixed_vec.specs.declared.FixedVec.{FixedVec}
use Rattle.fixed_vec.specs.declared.Full.{Full}
use Rattle.grammar.specs.Forms.{Form, parts, size, arity, root}
use Rattle.grammar.specs.Forms.Form.{yes_form, no_form, leaf, one, two}
use Rattle.grammar.specs.Forms.Part.{always}
use Rattle.grammar.specs.Numbering.{operands_in}
use Rattle.grammar.specs.Numbering.Operands.{no_operand, operand, operands}
use Rattle.grammar.specs.Signs.{Sign, flip, under, left, right}
use Rattle.grammar.specs.Signs.Sign.{plus, minus}
use Rattle.grammar.specs.Striking.{settled, struck, struck_from}
use Rattle.grammar.specs.Writing.{written}
use Rattle.grammar.specs.Reading.{answer_of}
use Rattle.grammar.specs.Answering.Answer.{the_rule}
use Rattle.grammar.proofs.Strikes.{struck_back, struck_none}
use Rattle.words.specs.Kinds.{part_of, flips_of, before_of, between_of, after_of, before, between, after}
use Rattle.words.specs.declared.kinds.Kind.{Kind}
use Rattle.reading.specs.Holding.{parting}
use Rattle.reading.specs.declared.part.Part as declared
use Rattle.rule.specs.Printing.{Adds, constant_for, part_text, word_for}
use Rattle.rule.specs.Rules.{form_in, marked, names_in}
use Rattle.rule.specs.declared.rule.Rule.{Rule}
use Rattle.rule.specs.Walks.{Stands}
use Rattle.rule.proofs.Standings.{leaf_view, one_view, two_view, one_turned, two_turned, below_one, below_left, below_right, is_root}
use Rattle.rule.proofs.Rules.{rule_names, rule_known, rule_few}
use Rattle.rule.proofs.Turns.{unlabelled, kind_unlabelled}

-- bytes that were added to a line, or refused
pub extended : (v w : FixedVec ℕ 1024) {bytes text : List ℕ} (r : Result (Unit {0}) Full) → Extended v w bytes r → text ≡ bytes → Adds text (items v) (items w) r
extended v w (Ok u) h e = record { ok = h ∙ ap (λ b. items v ++ b) (sym e); full = tt }
extended v w (Err x) h e = record { ok = tt; full = omega (arith, h.1, ap length e) }

-- the first piece of a text was added, and what became of the rest
pub adds_more : {text a b bytes old mid new : List ℕ} {r : Result (Unit {0}) Full} → text ≡ a ++ b → bytes ≡ a → mid ≡ old ++ bytes → Adds b mid new r → Adds text old new r
adds_more {text} {a} {b} {bytes} {old} {r = Ok u} d k e h = record {
  ok = h.ok ∙ ap (λ l. l ++ b) (e ∙ ap (λ l. old ++ l) k) ∙ append_assoc old a b ∙ ap (λ l. old ++ l) (sym d);
  full = tt;
}
adds_more {text} {a} {b} {bytes} {old} {r = Err x} d k e h = record {
  ok = tt;
  full = omega (arith, h.full, ap length d, ap length k, ap length e, length-append old bytes, length-append a b);
}

-- the first piece of a text found no room, and the call ended there
pub adds_stop : {text a bytes old new : List ℕ} (b : List ℕ) {r : Result (Unit {0}) Full} {e : Full} → text ≡ a ++ b → bytes ≡ a → 1024 < length old + length bytes → (y : Full) × (r ≡ Err y) × (y ≡ e) → Adds text old new r
adds_stop {text} {a} {old = old} {new = new} b d k h y =
    subst (Adds text old new) (sym y.1) (record { ok = tt; full = omega (arith, h, ap length d, ap length k, length-append a b) })

-- an empty line takes a text of 1,024 bytes
pub adds_all : {text old new : List ℕ} (r : Result (Unit {0}) Full) → old ≡ [] → length text ≤ 1024 → Adds text old new r → IsOk r × (new ≡ text)
adds_all {text} (Ok u) e n h = (refl, h.ok ∙ ap (λ l. l ++ text) e)
adds_all (Err x) e n h = absurd (omega (arith, h.full, ap length e))

-- a form with its struck parts, as its root is not struck
abbrev rooted : (ℕ → Bool) → ℕ → Sign → Form ℕ → Form ℕ
rooted marks k p yes_form = yes_form
rooted marks k p no_form = no_form
rooted marks k p (leaf i) = leaf i
rooted marks k p (one o g) = one o (struck_from marks k (under o p) g)
rooted marks k p (two o g h) = two o (struck_from marks k (left o p) g) (struck_from marks (k + size g) (right o p) h)

struck-root : (marks : ℕ → Bool) (k : ℕ) (p : Sign) (g : Form ℕ) (i : ℕ) → k + size g ≡ i + 1 → struck_from marks k p g ≡ cond (marks i) (settled p) (rooted marks k p g)
struck-root marks k p yes_form i e = let h : k ≡ i = omega arith in ap (λ n. cond (marks n) (settled p) yes_form) h
struck-root marks k p no_form i e = let h : k ≡ i = omega arith in ap (λ n. cond (marks n) (settled p) no_form) h
struck-root marks k p (leaf l) i e = let h : k ≡ i = omega arith in ap (λ n. cond (marks n) (settled p) (leaf l)) h
struck-root marks k p (one o g) i e = let h : k + size g ≡ i = omega arith in ap (λ n. cond (marks n) (settled p) (rooted marks k p (one o g))) h
struck-root marks k p (two o g j) i e = let h : k + (size g + size j) ≡ i = omega arith in ap (λ n. cond (marks n) (settled p) (rooted marks k p (two o g j))) h

settled_text : (names : List (List ℕ)) (p : Sign) → constant_for p ≡ written names (settled p)
settled_text names plus = refl
settled_text names minus = refl

root_text : (names : List (List ℕ)) (marks : ℕ → Bool) (k : ℕ) (p : Sign) (g : Form ℕ) → arity (root g) ≡ 0 → word_for names (root g) ≡ written names (rooted marks k p g)
root_text names marks k p yes_form h = refl
root_text names marks k p no_form h = refl
root_text names marks k p (leaf i) h = refl
root_text names marks k p (one o g) h = absurd (omega arith)
root_text names marks k p (two o g j) h = absurd (omega arith)

-- a part with one operand: where that stands, and the text of the part by its pieces
pub record OnePieces (names : List (List ℕ)) (marks : ℕ → Bool) {f : Form ℕ} {i : ℕ} {p : Sign} (s : Stands f i p) (kind : Kind) (q : Sign) (m : ℕ) : Type 0 where
  pub inner : Stands f m q
  pub less : m < i
  pub text : part_text names marks s ≡ before_of kind ++ part_text names marks inner

-- the same of a part with two
pub record TwoPieces (names : List (List ℕ)) (marks : ℕ → Bool) {f : Form ℕ} {i : ℕ} {p : Sign} (s : Stands f i p) (kind : Kind) (q : Sign) (m n : ℕ) : Type 0 where
  pub former : Stands f m q
  pub latter : Stands f n p
  pub less : m < i
  pub latter_less : n < i
  pub text : part_text names marks s ≡ before_of kind ++ (part_text names marks former ++ (between_of kind ++ (part_text names marks latter ++ after_of kind)))

module _ (names : List (List ℕ)) (marks : ℕ → Bool) {f : Form ℕ} {i : ℕ} {p : Sign} (s : Stands f i p) where
  marked_as : {b : Bool} → marks i ≡ b → part_text names marks s ≡ written names (cond b (settled p) (rooted marks s.first p s.form))
  marked_as h =
      ap (written names) (struck-root marks s.first p s.form i s.ends ∙ ap (λ b. cond b (settled p) (rooted marks s.first p s.form)) h)

  pub constant_text : marks i ≡ true → part_text names marks s ≡ constant_for p
  constant_text h = marked_as h ∙ sym (settled_text names p)

  module _ (free : marks i ≡ false) (x : declared.Part) (here : get_or (parts f) i always ≡ parting x) where
    rooted_as : {g : Form ℕ} → s.form ≡ g → part_text names marks s ≡ written names (rooted marks s.first p g)
    rooted_as e = marked_as free ∙ ap (λ g. written names (rooted marks s.first p g)) e

    kind_as : {g : Form ℕ} → s.form ≡ g → part_of x.kind 0 ≡ unlabelled (root g)
    kind_as e = kind_unlabelled x.kind x.label ∙ ap unlabelled (is_root s x here ∙ ap root e)

    pub leaf_text : no_operand ≡ operands_in f i → part_text names marks s ≡ word_for names (parting x)
    leaf_text h =
        rooted_as refl ∙ sym (root_text names marks s.first p s.form (leaf_view s h))
        ∙ ap (word_for names) (sym (is_root s x here))

    module _ {b : Bool} (flips : b ≡ flips_of x.kind) {q : Sign} (turned : q ≡ cond b (flip p) p) where
      pub one_pieces : {m : ℕ} → operand m ≡ operands_in f i → OnePieces names marks s x.kind q m
      one_pieces h =
          let w = one_view s h in
          let e = one_turned s x here flips turned w in
          record {
            inner = below_one s w q e;
            less = w.less;
            text =
                rooted_as w.is ∙ (λ t. before (sym (kind_as w.is) t) ++ written names (struck_from marks s.first (sym e t) w.only));
          }

      pub two_pieces : {m n : ℕ} → operands m n ≡ operands_in f i → TwoPieces names marks s x.kind q m n
      two_pieces h =
          let w = two_view s h in
          let e = two_turned s x here flips turned w in
          record {
            former = below_left s w q e;
            latter = below_right s w;
            less = omega (arith, w.less, w.latter_less);
            latter_less = w.latter_less;
            text =
                rooted_as w.is
                ∙ (λ t. before (sym (kind_as w.is) t) ++ (written names (struck_from marks s.first (sym e t) w.former) ++ (between (sym (kind_as w.is) t) ++ (part_text names marks (below_right s w) ++ after (sym (kind_as w.is) t)))));
          }

-- the text of a rule with struck parts is short, and stands for what is left of the rule
module _ (r : Rule) (marks : ℕ → Bool) where
  both : (length (written (names_in r) (struck marks (form_in r))) ≤ 709) × (answer_of (names_in r) (written (names_in r) (struck marks (form_in r))) ≡ the_rule (struck marks (form_in r)))
  both = struck_back (names_in r) (form_in r) marks (rule_names r) (rule_known r) (rule_few r)

  pub struck_short : length (written (names_in r) (struck marks (form_in r))) ≤ 709
  struck_short = both.0

  pub struck_again : answer_of (names_in r) (written (names_in r) (struck marks (form_in r))) ≡ the_rule (struck marks (form_in r))
  struck_again = both.1

-- no part is struck without marks
pub struck_nothing : (f : Form ℕ) → struck (marked []) f ≡ f
struck_nothing f = struck_none (marked []) (λ i. refl) 0 plus f
