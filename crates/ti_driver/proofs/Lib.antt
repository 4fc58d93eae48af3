pub mod PutLaws
pub mod ReportLaws
pub mod ReportLineLaws
pub mod StreamLaws
pub mod TextLaws
pub mod VerdictLaws
