-- A program of one file that has a tree.
use Rattle.std.proofs.Common.{◌≡◌, refl, sym, ◌∙◌, ap, ℕ, List, [], ◌∷◌, Option, Some, None}
use Rattle.ada_syntax.specs.declared.units.SourceUnit.{SourceUnit}
use Rattle.name_resolver.specs.declared.files.SourceFile.{SourceFile}
use Rattle.front_codes.specs.declared.codes.Refusal.{Refusal}
use Rattle.spark_reader.specs.declared.refusal.ReadRefusal.TheVariants as reading
use Rattle.spark_reader.specs.Reads.{Reads}
use Rattle.spark_reader.proofs.Only.{not_both}
use Rattle.unit_front.specs.declared.files.FrontRefusal.TheVariants as front
use Rattle.unit_front.specs.declared.reading.FileRead.{FileRead}
use Rattle.unit_front.specs.declared.reading.FileRead.TheVariants.{Lexical, Syntactic, Tree}
use Rattle.unit_front.specs.Reading.{AreFiles, HaveFirst, HaveTrees, first_refusal, trees}

abbrev pub IsTreeOf : List ℕ → List SourceFile → Type 0
IsTreeOf bytes us = (s : SourceFile) × (us ≡ s ∷ []) × Reads bytes s.unit

tree_among : (bytes : List ℕ) (us : List SourceFile) (fs : List FileRead) → AreFiles 0 (bytes ∷ []) fs → first_refusal fs ≡ None → us ≡ trees fs → IsTreeOf bytes us
tree_among bytes us [] a e t = absurd a
tree_among bytes us (Lexical r ∷ fs) a e t = cc
tree_among bytes us (Syntactic r ∷ []) a e t = cc
tree_among bytes us (Syntactic r ∷ f ∷ fs) a e t = absurd a.1
tree_among bytes us (Tree u ∷ []) a e t = (u, t, a.0.1)
tree_among bytes us (Tree u ∷ f ∷ fs) a e t = absurd a.1

pub only_tree : (bytes : List ℕ) (us : List SourceFile) → HaveTrees (bytes ∷ []) us → IsTreeOf bytes us
only_tree bytes us h = tree_among bytes us h.0 h.1 h.2 h.3

refusal_among : (bytes : List ℕ) (r : Refusal) (u : SourceUnit) → Reads bytes u → (fs : List FileRead) → AreFiles 0 (bytes ∷ []) fs → first_refusal fs ≡ Some r → ⊥
refusal_among bytes r u t [] a e = a
refusal_among bytes r u t (Lexical g ∷ fs) a e = not_both bytes u (reading.Lex a.0.0) t a.0.1
refusal_among bytes r u t (Syntactic g ∷ fs) a e = not_both bytes u (reading.Syntax a.0.0 a.0.1) t a.0.2
refusal_among bytes r u t (Tree v ∷ []) a e = cc
refusal_among bytes r u t (Tree v ∷ f ∷ fs) a e = a.1

pub no_refusal : (bytes : List ℕ) (r : Refusal) (u : SourceUnit) → Reads bytes u → HaveFirst (bytes ∷ []) (front.Refused r) → ⊥
no_refusal bytes r u t h = refusal_among bytes r u t h.0 h.1 h.2
