use Rattle.std.proofs.Common.{◌≡◌, ℕ, List, [], ◌∷◌, ◌++◌, ◌+◌, length, map, take, get_or, sym, ap, ◌∙◌, subst, arith}
use Rattle.std.proofs.lemmas.List.{length_push}
use Rattle.ada_text.specs.declared.token.Span.{Span}
use Rattle.ada_text.specs.declared.token.Token.{Token}
use Rattle.ada_text.specs.declared.token.TokenKind.TheVariants as kind
use Rattle.name_library.specs.declared.events.Ident.{Ident}
use Rattle.name_numbers.specs.Numbers.{identifiers_among, text_at}
use Rattle.name_numbers.specs.Places.{Reads}
use Rattle.name_numbers.proofs.Walked.{among_one, among_same, count_more, order_at, order_count, reads_more, starts_more}
use Rattle.name_numbers.proofs.numbering.idents_among.Goals as goal

abbrev no_token : Token
no_token = record { kind = kind.Id; span = record { from = 0; to = 0 } }

pub loop-token-preserved-in_default : goal.loop-token-preserved-in_default
loop-token-preserved-in_default c =
    let spans = identifiers_among (take c.loop-token.token-index c.args.tokens.now) in
    let same : spans ≡ identifiers_among (take (c.loop-token.token-index + 1) c.args.tokens.now) = sym (among_same c.args.tokens.now c.loop-token.token-index _ c.loop-token-test.true c.in_default.not-Id) in
    record {
      few = omega (arith, c.loop-token.invariant.few);
      starts = subst (λ (ss : List Span). map (λ (i : Ident). i.at) c.loop-token.idents ≡ map (λ (s : Span). s.from) ss) same c.loop-token.invariant.starts;
      names = λ names knows count. subst (λ (ss : List Span). Reads names c.args.folded.now ss c.loop-token.places c.loop-token.idents) same (c.loop-token.invariant.names names knows count);
    }

pub overflow_cast-len : goal.overflow_cast-len
overflow_cast-len c =
    omega (arith, c.loop-token.invariant.few, order_count 0 (length c.args.folded.now) c.args.tokens.now c.requires.order, c.requires.few)

pub overflow_add-count : goal.overflow_add-count
overflow_add-count c =
    omega (arith, c.loop-token.invariant.few, order_count 0 (length c.args.folded.now) c.args.tokens.now c.requires.order, c.requires.few)

pub ident_of-requires : goal.ident_of-requires
ident_of-requires c = record { inside = order_at 0 (length c.args.folded.now) c.args.tokens.now c.loop-token.token-index _ c.requires.order c.loop-token-test.true }

pub loop-token-preserved : goal.loop-token-preserved
loop-token-preserved c =
    let spans = identifiers_among (take c.loop-token.token-index c.args.tokens.now) in
    let s = (get_or c.args.tokens.now c.loop-token.token-index no_token).span in
    let i = c.in_ok-ident.ident in
    let same : spans ++ s ∷ [] ≡ identifiers_among (take (c.loop-token.token-index + 1) c.args.tokens.now) = sym (among_one c.args.tokens.now c.loop-token.token-index _ c.loop-token-test.true c.in-Id.is) in
    let pushed : c.push.new.self ≡ c.loop-token.idents ++ i ∷ [] = c.in_ok-push.ensures.ok in
    record {
      few = omega (arith, c.loop-token.invariant.few, ap (length {A = Ident}) pushed, length_push c.loop-token.idents i);
      starts = ap (λ (is : List Ident). map (λ (i : Ident). i.at) is) pushed ∙ starts_more spans s c.loop-token.idents i c.loop-token.invariant.starts c.in_ok-ident.ensures.at ∙ ap (λ (ss : List Span). map (λ (s : Span). s.from) ss) same;
      names = λ names knows count.
          let before = c.loop-token.invariant.names names knows count in
          let counted : length (names ++ map (text_at c.args.folded.now) spans) ≡ c.args.count + c.len.result = count_more names c.args.folded.now spans c.loop-token.idents c.args.count c.loop-token.invariant.starts count ∙ ap (λ (n : ℕ). c.args.count + n) (sym c.len.ensures) in
          let reads = reads_more names c.args.folded.now spans s c.loop-token.places c.ident_of.new.places c.loop-token.idents i before (c.in_ok-ident.ensures.name (names ++ map (text_at c.args.folded.now) spans) before.0 counted) c.in_ok-ident.ensures.at in
          subst (λ (ss : List Span). Reads names c.args.folded.now ss c.ident_of.new.places c.push.new.self) same (subst (λ (is : List Ident). Reads names c.args.folded.now (spans ++ s ∷ []) c.ident_of.new.places is) (sym pushed) reads);
    }
