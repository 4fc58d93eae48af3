mod FewerLaws
mod CountedLaws
