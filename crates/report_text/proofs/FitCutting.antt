-- A printed report on what fits is cut into its lines.
use Rattle.std.proofs.Common.{◌≡◌, ℕ, List, [], ◌∷◌, ◌++◌, All, ap, ◌∙◌, codes}
use Rattle.std.proofs.lemmas.List.Elements.{All-append, All-cons, All-nil}
use Rattle.report_text.specs.declared.line.Line.{Line}
use Rattle.report_text.specs.Fitting.{IsFitText, fit_report_lines}
use Rattle.report_text.specs.Printed.{AreTextsOf, unknown_head, verdict_line}
use Rattle.report_text.specs.Sections.{whole_lines}
use Rattle.report_text.proofs.Cutting.{KnownTexts, section_lacks, texts_among, whole_lines_are}
use Rattle.report_text.proofs.Frame.{Lacks, fits_silent, head_silent, silent_lacks, verdict_silent}

module _ {names : List (List ℕ)} (known : KnownTexts names) where
  lack : (lines : List Line) (texts : List (List ℕ)) → AreTextsOf names lines texts → All Lacks texts
  lack lines texts are = section_lacks known lines texts (texts_among known lines texts are)

  pub fit_report_cut : (fits unknown : List Line) (text : List ℕ) (printed : IsFitText names fits unknown text)
      → whole_lines text ≡ fit_report_lines printed.fits_texts printed.unknown_texts
  fit_report_cut fits unknown text printed =
      let first = printed.fits_texts in
      let others = printed.unknown_texts in
      let last = verdict_line others in
      ap (λ t. whole_lines t) printed.is
      ∙ whole_lines_are (fit_report_lines first others)
      (All-cons Lacks (codes "fits:") (first ++ (codes "unknown:" ∷ (others ++ last ∷ []))) (silent_lacks (codes "fits:") fits_silent)
      (All-append Lacks first (codes "unknown:" ∷ (others ++ last ∷ [])) (lack fits first printed.fits_are)
      (All-cons Lacks (codes "unknown:") (others ++ last ∷ []) (silent_lacks (codes "unknown:") (head_silent unknown_head))
      (All-append Lacks others (last ∷ []) (lack unknown others printed.unknown_are)
      (All-cons Lacks last [] (silent_lacks last (verdict_silent others)) (All-nil Lacks))))))
