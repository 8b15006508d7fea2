pub mod FormsOfTags
pub mod KeywordSizes
