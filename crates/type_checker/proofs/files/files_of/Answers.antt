use Rattle.std.proofs.Common.{◌≡◌, ◌∙◌, ◌++◌, ◌+◌, ℕ, add-one, List, [], ◌∷◌, ap, append-nil, append_assoc, drop, map, sym, rules}
use Rattle.std.proofs.lemmas.List.{map-append}
use Rattle.program_scope.specs.Homes.{file_of}
use Rattle.program_scope.specs.declared.file.File as code
use Rattle.statement_typing.specs.Files.{File}
use Rattle.type_checker.specs.Sources.{files_from}
use Rattle.type_checker.proofs.Following.{end, turn}
use Rattle.type_checker.proofs.files.files_of.Goals as goal

pub loop-file-preserved : goal.loop-file-preserved
loop-file-preserved c =
    let ss = c.args.sources.now in
    let ts = c.args.named.now.tables in
    let ls = c.args.named.now.lines in
    let k = c.loop-file.number in
    let fs = c.loop-file.files in
    let f = c.in-Some.file in
    let us = c.args.named.now.links in
    let from : ℕ → List File = λ n. files_from n (drop n ss) (drop n ts) (drop n ls) us in
    let next : c.in-Some-checked_add.next ≡ k + 1 = search rules in
    ap (λ (n : ℕ). map file_of c.push.new.self ++ from n) next
    ∙ ap (λ (l : List code.File). map file_of l ++ from (k + 1)) c.in_ok-push.ensures.ok
    ∙ ap (λ (l : List File). l ++ from (k + 1)) (map-append file_of fs (f ∷ []))
    ∙ append_assoc (map file_of fs) (file_of f ∷ []) (from (k + 1))
    ∙ ap (λ (n : ℕ). map file_of fs ++ file_of f ∷ files_from n (drop (k + 1) ss) (drop (k + 1) ts) (drop (k + 1) ls) us) (add-one k)
    ∙ ap (λ (l : List File). map file_of fs ++ l) (sym (turn k k ss ts ls us (file_of f) (sym c.in-Some.ensures)))
    ∙ c.loop-file.invariant

pub returns : goal.returns
returns c =
    let fs = c.loop-file.files in
    let k = c.loop-file.number in
    sym (append-nil (map file_of fs))
    ∙ ap (λ (l : List File). map file_of fs ++ l) (sym (end k k c.args.sources.now c.args.named.now.tables c.args.named.now.lines c.args.named.now.links (sym c.in_default.ensures)))
    ∙ c.loop-file.invariant
