mod CardLaws
mod LineLaws
