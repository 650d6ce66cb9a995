use Rattle.tree_support.proofs.Keeping.{firm_sets_are_kept, supported_sets_are_kept, told_sets_are_kept}
use Rattle.tree_support.proofs.laws.what_supports_itself_is_kept.Goals as goal

pub returns : goal.returns
returns g c = record {
  firm = firm_sets_are_kept g.R.Rank;
  supported = supported_sets_are_kept g.R.Rank;
  told = told_sets_are_kept g.R.Rank;
}
