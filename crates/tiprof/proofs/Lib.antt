pub mod FoldLaws
pub mod RootsLaws
pub mod AskedLaws
pub mod LineLaws
