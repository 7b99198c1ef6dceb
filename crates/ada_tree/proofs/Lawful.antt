-- Each production's rule makes a part that reads as its right side.
use Rattle.std.proofs.Common.{◌≡◌, ℕ, zero, suc, List, [], ◌∷◌, Some, subst}
use Rattle.grammar_table.specs.Parses.{Production, left_of, right_of}
use Rattle.grammar_table.specs.Productions.{productions}
use Rattle.grammar_table.specs.declared.symbols.Nonterminal.{Nonterminal}
use Rattle.ada_tree.specs.declared.rules.Rule.{Rule}
use Rattle.ada_tree.specs.Made.{rule_among, rule_at, rules}
use Rattle.ada_tree.proofs.UnitsLaws.{law_0, law_1, law_2, law_3, law_4, law_5, law_6, law_7, law_8, law_9, law_10, law_11, law_12, law_13, law_14, law_15, law_16, law_17, law_18, law_19, law_20, law_21, law_22}
use Rattle.ada_tree.proofs.TypesLaws.{law_23, law_24, law_25, law_26, law_27, law_28, law_29, law_30, law_31, law_32, law_33, law_34, law_35, law_36, law_37, law_38, law_39, law_40, law_41, law_42, law_43, law_44, law_45, law_46}
use Rattle.ada_tree.proofs.SubprogramsLaws.{law_47, law_48, law_49, law_50, law_51, law_52, law_53, law_54, law_55, law_56, law_57, law_58, law_59, law_60, law_61, law_62, law_63, law_64, law_65, law_66, law_67, law_68, law_69, law_70}
use Rattle.ada_tree.proofs.StatementsLaws.{law_71, law_72, law_73, law_74, law_75, law_76, law_77, law_78, law_79, law_80, law_81, law_82, law_83, law_84, law_85, law_86, law_87, law_88, law_89, law_90, law_91, law_92, law_93, law_94, law_95, law_96, law_97, law_98, law_99, law_100, law_101, law_102, law_103}
use Rattle.ada_tree.proofs.ItemsLaws.{law_104, law_105, law_106, law_107, law_108, law_109, law_110, law_111, law_112, law_113, law_114, law_115, law_116, law_117, law_118, law_119, law_120, law_121, law_122, law_123, law_124, law_125, law_126}
use Rattle.ada_tree.proofs.LogicLaws.{law_127, law_128, law_129, law_130, law_131, law_132, law_133, law_134, law_135, law_136, law_137, law_138, law_139, law_140, law_141, law_142, law_143, law_144, law_145, law_146, law_147, law_148, law_149, law_150}
use Rattle.ada_tree.proofs.OperatorsLaws.{law_151, law_152, law_153, law_154, law_155, law_156, law_157, law_158, law_159, law_160, law_161, law_162, law_163, law_164, law_165, law_166, law_167, law_168, law_169, law_170, law_171, law_172, law_173, law_174, law_175, law_176, law_177, law_178, law_179, law_180, law_181, law_182, law_183, law_184, law_185}
use Rattle.ada_tree.proofs.Texts.{Law}

abbrev Lawful : List Production → List Rule → Type 0
Lawful [] rs = Unit {0}
Lawful (p ∷ ps) [] = ⊥
Lawful (p ∷ ps) (r ∷ rs) = Law p.left p.right r × Lawful ps rs

lawful : Lawful productions rules
unfolding productions rules
lawful = (law_0, (law_1, (law_2, (law_3, (law_4, (law_5, (law_6, (law_7, (law_8, (law_9, (law_10, (law_11, (law_12, (law_13, (law_14, (law_15, (law_16, (law_17, (law_18, (law_19, (law_20, (law_21, (law_22, (law_23, (law_24, (law_25, (law_26, (law_27, (law_28, (law_29, (law_30, (law_31, (law_32, (law_33, (law_34, (law_35, (law_36, (law_37, (law_38, (law_39, (law_40, (law_41, (law_42, (law_43, (law_44, (law_45, (law_46, (law_47, (law_48, (law_49, (law_50, (law_51, (law_52, (law_53, (law_54, (law_55, (law_56, (law_57, (law_58, (law_59, (law_60, (law_61, (law_62, (law_63, (law_64, (law_65, (law_66, (law_67, (law_68, (law_69, (law_70, (law_71, (law_72, (law_73, (law_74, (law_75, (law_76, (law_77, (law_78, (law_79, (law_80, (law_81, (law_82, (law_83, (law_84, (law_85, (law_86, (law_87, (law_88, (law_89, (law_90, (law_91, (law_92, (law_93, (law_94, (law_95, (law_96, (law_97, (law_98, (law_99, (law_100, (law_101, (law_102, (law_103, (law_104, (law_105, (law_106, (law_107, (law_108, (law_109, (law_110, (law_111, (law_112, (law_113, (law_114, (law_115, (law_116, (law_117, (law_118, (law_119, (law_120, (law_121, (law_122, (law_123, (law_124, (law_125, (law_126, (law_127, (law_128, (law_129, (law_130, (law_131, (law_132, (law_133, (law_134, (law_135, (law_136, (law_137, (law_138, (law_139, (law_140, (law_141, (law_142, (law_143, (law_144, (law_145, (law_146, (law_147, (law_148, (law_149, (law_150, (law_151, (law_152, (law_153, (law_154, (law_155, (law_156, (law_157, (law_158, (law_159, (law_160, (law_161, (law_162, (law_163, (law_164, (law_165, (law_166, (law_167, (law_168, (law_169, (law_170, (law_171, (law_172, (law_173, (law_174, (law_175, (law_176, (law_177, (law_178, (law_179, (law_180, (law_181, (law_182, (law_183, (law_184, (law_185, tt))))))))))))))))))))))))))))))))))))))))))))))))))))))))))))))))))))))))))))))))))))))))))))))))))))))))))))))))))))))))))))))))))))))))))))))))))))))))))))))))))))))))))))))))))))))))))

law_among : (ps : List Production) (rs : List Rule) (k : ℕ) (n : Nonterminal) → Lawful ps rs → left_of ps k ≡ Some n → Law n (right_of ps k) (rule_among rs k)
law_among [] rs k n l e = cc
law_among (p ∷ ps) [] k n l e = absurd l
law_among (p ∷ ps) (r ∷ rs) zero n l e =
    let same : p.left ≡ n = cc in
    subst (λ (m : Nonterminal). Law m p.right r) same l.0
law_among (p ∷ ps) (r ∷ rs) (suc k) n l e = law_among ps rs k n l.1 e

pub law_at : (k : ℕ) (n : Nonterminal) → left_of productions k ≡ Some n → Law n (right_of productions k) (rule_at k)
unfolding rule_at
law_at k n e = law_among productions rules k n lawful e
