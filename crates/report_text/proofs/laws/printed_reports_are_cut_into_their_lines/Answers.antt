use Rattle.report_text.proofs.Cutting.{front_says, report_sections}
use Rattle.report_text.proofs.laws.printed_reports_are_cut_into_their_lines.Goals as goal

pub returns : goal.returns
returns c =
    let form = c.lines_have_their_own_form.ensures in
    record {
      sections = λ names report text printed are. report_sections (record { newline = λ line condition claim. form.newline names line condition claim are; opening = λ line condition claim. form.opening names line condition claim }) report text printed;
      lines = λ names report front rest are. front_says (record { newline = λ line condition claim. form.newline names line condition claim are; opening = λ line condition claim. form.opening names line condition claim }) report front rest;
    }
